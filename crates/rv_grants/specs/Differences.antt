-- Where one of two lists grants a call and the other doesn't, by spans of ticks (own).
use Rattle.std.specs.Prelude.{◌≡◌, ℕ, Bool, true, false, ◌==◌, ◌&&◌, not, if◌then◌else◌, List, [], ◌∷◌, ◌++◌, codes, Option, Some, None}
use Rattle.std.specs.Fmt.{decimal}
use Rattle.rv_access.specs.Lines.{allows, line_at}
use Rattle.rv_access.specs.Words.{Words}
use Rattle.rv_shape.specs.Catalogue.{dotted}
use Rattle.rv_spans.specs.Spans.{in_order}
use Rattle.rv_grants.specs.Grants.{Call, decided, decision_fields, decision_text, ends, json_row}

-- where the windows of both lists begin and end, in order
abbrev pub edges_of : List Words → List Words → List ℕ
edges_of one other = in_order (ends one ++ ends other)

-- the numbers of the lines that decide a call at a tick, of the one list and of the other
abbrev pub Deciding : Type 0
Deciding = ℕ × ℕ

abbrev pub deciding : List Words → List Words → Call → ℕ → Deciding
deciding one other call tick = (decided one call tick, decided other call tick)

abbrev pub are_same : Deciding → Deciding → Bool
are_same these those = (these.0 == those.0) && (these.1 == those.1)

-- one of two is so, and not the other
abbrev pub is_one_of : Bool → Bool → Bool
is_one_of true other = not other
is_one_of false other = other

-- one of these two lines grants, and the other doesn't
abbrev pub differ : List Words → List Words → Deciding → Bool
differ one other these = is_one_of (allows (line_at one these.0)) (allows (line_at other these.1))

-- the first of these ticks at which other lines decide
abbrev pub end_among : List Words → List Words → Call → Deciding → List ℕ → Option ℕ
end_among one other call these [] = None
end_among one other call these (tick ∷ ticks) =
    if are_same these (deciding one other call tick) then end_among one other call these ticks else Some tick

-- from which tick on and until when, if ever
abbrev pub span_text : ℕ → Option ℕ → List ℕ
span_text tick None = decimal tick
span_text tick (Some end) = decimal tick ++ (codes " until tick " ++ decimal end)

-- what the line of the one list decides, and what that of the other
abbrev pub decisions_text : List Words → List Words → Deciding → List ℕ
decisions_text one other these = decision_text (line_at one these.0) ++ (codes ", against " ++ decision_text (line_at other these.1))

-- a row: who calls what, when, and what both lists decide
abbrev pub difference_row : Call → List ℕ → List ℕ → List ℕ
difference_row call span decisions =
    call.caller ++ 32 ∷ (dotted call.unit call.object ++ 32 ∷ (call.operation ++ (codes " from tick " ++ (span
    ++ (codes " -> " ++ (decisions ++ 10 ∷ []))))))

-- so as JSON
abbrev pub span_fields : ℕ → Option ℕ → List ℕ
span_fields tick None = decimal tick
span_fields tick (Some end) = decimal tick ++ (codes ",\"until\":" ++ decimal end)

abbrev pub decisions_fields : List Words → List Words → Deciding → List ℕ
decisions_fields one other these =
    decision_fields these.0 (line_at one these.0) ++ (codes ",\"against\":{" ++ (decision_fields these.1 (line_at other these.1) ++ codes "}"))

-- what is told of a call from a tick on until another
abbrev pub told_apart : List Words → List Words → Call → ℕ → Option ℕ → Deciding → List ℕ
told_apart one other call tick end these =
    if call.as_json then json_row call (span_fields tick end) (decisions_fields one other these)
    else difference_row call (span_text tick end) (decisions_text one other these)

-- whether these lines decided before
abbrev pub decided_before : Option Deciding → Deciding → Bool
decided_before None these = false
decided_before (Some last) these = are_same last these

-- what is told of a call from a tick on, before these others, where other lines decide than before and the two lists differ
abbrev pub difference_at : List Words → List Words → Call → Option Deciding → ℕ → List ℕ → List ℕ
difference_at one other call last tick ticks =
    let these : Deciding = deciding one other call tick in
    if decided_before last these then []
    else (if differ one other these
    then told_apart one other call tick (end_among one other call these ticks) these else [])

-- the rows of a call at these ticks
abbrev pub differences_from : List Words → List Words → Call → Option Deciding → List ℕ → List ℕ
differences_from one other call last [] = []
differences_from one other call last (tick ∷ ticks) =
    difference_at one other call last tick ticks ++ differences_from one other call (Some (deciding one other call tick)) ticks

-- from tick 0 on
abbrev pub differences_text : List Words → List Words → Call → List ℕ
differences_text one other call = differences_from one other call None (0 ∷ edges_of one other)

-- where a call has no row, both lists grant it or neither does, at each tick
abbrev pub AgreesWithoutRow : Type 0
AgreesWithoutRow =
    (one other : List Words) (call : Call) → differences_text one other call ≡ [] → (tick : ℕ)
    → allows (line_at one (decided one call tick)) ≡ allows (line_at other (decided other call tick))
