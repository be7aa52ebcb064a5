-- Where a call has no row, the two lists agree about it at each tick.
use Rattle.std.proofs.Common.{◌≡◌, ◌⊎◌, ◌<◌, ◌≤◌, ℕ, Bool, true, false, Option, Some, None, List, [], ◌∷◌, ◌++◌, refl, sym, ap, ◌∙◌, arith, inl, inr, if◌then◌else◌}
use Rattle.std.specs.Prelude.{◌==◌, ◌&&◌, nat_le}
use Rattle.std.proofs.lemmas.Bool.Decides.{nat_tests}
use Rattle.rv_access.specs.Lines.{allows, line_at}
use Rattle.rv_access.specs.Words.{Words}
use Rattle.rv_spans.specs.Spans.{in_order, with_span}
use Rattle.rv_grants.specs.Differences.{AgreesWithoutRow, Deciding, are_same, deciding, decided_before, decisions_fields, decisions_text, differ, difference_at, difference_row, differences_from, edges_of, end_among, is_one_of, span_fields, span_text, told_apart}
use Rattle.rv_grants.specs.Grants.{Call, NoneBetween, decided, ends, json_row}
use Rattle.rv_grants.proofs.Between.{decides_between}

-- the two lists agree about a call at these ticks
abbrev AgreeAt : List Words → List Words → Call → List ℕ → Type 0
AgreeAt one other call [] = Unit {0}
AgreeAt one other call (tick ∷ ticks) = (differ one other (deciding one other call tick) ≡ false) × AgreeAt one other call ticks

-- Rows

first_none : (xs ys : List ℕ) → xs ++ ys ≡ [] → xs ≡ []
first_none [] ys e = refl
first_none (x ∷ xs) ys e = absurd cc

second_none : (xs ys : List ℕ) → xs ++ ys ≡ [] → ys ≡ []
second_none [] ys e = e
second_none (x ∷ xs) ys e = absurd cc

-- something with a byte behind it isn't nothing
ends_with : (xs ys : List ℕ) (byte : ℕ) → xs ++ (byte ∷ ys) ≡ [] → ⊥
ends_with [] ys byte e = cc
ends_with (x ∷ xs) ys byte e = cc

no_row : (call : Call) (span decisions : List ℕ) → difference_row call span decisions ≡ [] → ⊥
no_row call span decisions e = ends_with call.caller _ 32 e

no_json : (call : Call) (span decisions : List ℕ) → json_row call span decisions ≡ [] → ⊥
no_json call span decisions e = cc

neither : (b : Bool) (one other : List ℕ) → (one ≡ [] → ⊥) → (other ≡ [] → ⊥) → (if b then one else other) ≡ [] → ⊥
neither true one other first second e = first e
neither false one other first second e = second e

untold : (one other : List Words) (call : Call) (tick : ℕ) (end : Option ℕ) (these : Deciding) → told_apart one other call tick end these ≡ [] → ⊥
untold one other call tick end these =
    neither call.as_json (json_row call (span_fields tick end) (decisions_fields one other these)) (difference_row call (span_text tick end) (decisions_text one other these))
    (no_json call (span_fields tick end) (decisions_fields one other these)) (no_row call (span_text tick end) (decisions_text one other these))

none_differs : (b : Bool) (row : List ℕ) → (row ≡ [] → ⊥) → (if b then row else []) ≡ [] → b ≡ false
none_differs true row never e = absurd (never e)
none_differs false row never e = refl

-- what the last lines were, they agree
abbrev Agreed : List Words → List Words → Option Deciding → Type 0
Agreed one other None = Unit {0}
Agreed one other (Some last) = differ one other last ≡ false

same_both : (a b c d : ℕ) → ((a == c) && (b == d)) ≡ true → (a ≡ c) × (b ≡ d)
same_both a b c d e = (grind (arith, nat_tests), grind (arith, nat_tests))

again : (one other : List Words) (last these : Deciding) → are_same last these ≡ true → differ one other last ≡ false → differ one other these ≡ false
again one other last these same e =
    let p = same_both last.0 last.1 these.0 these.1 same in
    ap (λ (n : ℕ). is_one_of (allows (line_at one n)) (allows (line_at other these.1))) (sym p.0)
    ∙ ap (λ (n : ℕ). is_one_of (allows (line_at one last.0)) (allows (line_at other n))) (sym p.1) ∙ e

-- what is told of a call from a tick on
abbrev row_of : List Words → List Words → Call → ℕ → List ℕ → List ℕ
row_of one other call tick ticks =
    told_apart one other call tick (end_among one other call (deciding one other call tick) ticks) (deciding one other call tick)

here_again : (one other : List Words) (call : Call) (last : Option Deciding) (tick : ℕ) (ticks : List ℕ) (b : Bool) → decided_before last (deciding one other call tick) ≡ b → Agreed one other last →
    (if b then [] else (if differ one other (deciding one other call tick) then row_of one other call tick ticks else [])) ≡ [] → differ one other (deciding one other call tick) ≡ false
here_again one other call None tick ticks true is agreed e = absurd cc
here_again one other call (Some last) tick ticks true is agreed e = again one other last (deciding one other call tick) is agreed
here_again one other call last tick ticks false is agreed e =
    none_differs (differ one other (deciding one other call tick)) (row_of one other call tick ticks)
    (untold one other call tick (end_among one other call (deciding one other call tick) ticks) (deciding one other call tick)) e

agree_from : (one other : List Words) (call : Call) (last : Option Deciding) (ticks : List ℕ) → Agreed one other last → differences_from one other call last ticks ≡ [] → AgreeAt one other call ticks
agree_from one other call last [] agreed e = tt
agree_from one other call last (tick ∷ ticks) agreed e =
    let these : Deciding = deciding one other call tick in
    let row : List ℕ = difference_at one other call last tick ticks in
    let rest : List ℕ = differences_from one other call (Some these) ticks in
    let here : differ one other these ≡ false = here_again one other call last tick ticks (decided_before last these) refl agreed (first_none row rest e) in
    (here, agree_from one other call (Some these) ticks here (second_none row rest e))

-- Ticks in any order

put_out : (one other : List Words) (call : Call) (tick next : ℕ) (ticks : List ℕ) (b : Bool) → (AgreeAt one other call (with_span tick ticks) → AgreeAt one other call (tick ∷ ticks)) →
    AgreeAt one other call (if b then tick ∷ next ∷ ticks else next ∷ with_span tick ticks) → AgreeAt one other call (tick ∷ next ∷ ticks)
put_out one other call tick next ticks true rest agree = agree
put_out one other call tick next ticks false rest agree =
    let all = rest agree.1 in
    (all.0, (agree.0, all.1))

out_of : (one other : List Words) (call : Call) (tick : ℕ) (ticks : List ℕ) → AgreeAt one other call (with_span tick ticks) → AgreeAt one other call (tick ∷ ticks)
out_of one other call tick [] agree = agree
out_of one other call tick (next ∷ ticks) agree = put_out one other call tick next ticks (nat_le tick next) (out_of one other call tick ticks) agree

any_order : (one other : List Words) (call : Call) (ticks : List ℕ) → AgreeAt one other call (in_order ticks) → AgreeAt one other call ticks
any_order one other call [] agree = tt
any_order one other call (tick ∷ ticks) agree =
    let p = out_of one other call tick (in_order ticks) agree in
    (p.0, any_order one other call ticks p.1)

-- The last edge up to a tick

record IsLast (one other : List Words) (call : Call) (tick : ℕ) (edges : List ℕ) : Type 0 where
  at : ℕ
  before : at ≤ tick
  none : NoneBetween at tick edges
  agrees : differ one other (deciding one other call at) ≡ false

-- a later one leaves none between either
nearer : (at later tick : ℕ) (edges : List ℕ) → at ≤ later → NoneBetween at tick edges → NoneBetween later tick edges
nearer at later tick [] le none = tt
nearer at later tick (edge ∷ edges) le none = (one none.0, nearer at later tick edges le none.1)
  where
    one : (edge ≤ at) ⊎ (tick < edge) → (edge ≤ later) ⊎ (tick < edge)
    one (inl e) = inl (omega arith)
    one (inr e) = inr e

-- one edge more, which is past the tick, or nearer to it than the last, or not
pick : (one other : List Words) (call : Call) (tick edge : ℕ) (edges : List ℕ) → differ one other (deciding one other call edge) ≡ false → (rest : IsLast one other call tick edges) → (b c : Bool) → nat_le edge tick ≡ b → nat_le rest.at edge ≡ c →
    IsLast one other call tick (edge ∷ edges)
pick one other call tick edge edges agrees rest true true le is = record {
  at = edge;
  before = grind (arith, nat_tests);
  none = (inl (omega arith), nearer rest.at edge tick edges (grind (arith, nat_tests)) rest.none);
  agrees = agrees;
}
pick one other call tick edge edges agrees rest true false le is = record {
  at = rest.at;
  before = rest.before;
  none = (inl (grind (arith, nat_tests)), rest.none);
  agrees = rest.agrees;
}
pick one other call tick edge edges agrees rest false c le is = record {
  at = rest.at;
  before = rest.before;
  none = (inr (grind (arith, nat_tests)), rest.none);
  agrees = rest.agrees;
}

last_of : (one other : List Words) (call : Call) (tick : ℕ) (edges : List ℕ) → differ one other (deciding one other call 0) ≡ false → AgreeAt one other call edges → IsLast one other call tick edges
last_of one other call tick [] first agree = record { at = 0; before = omega arith; none = tt; agrees = first }
last_of one other call tick (edge ∷ edges) first agree =
    let rest = last_of one other call tick edges first agree.1 in
    pick one other call tick edge edges agree.0 rest (nat_le edge tick) (nat_le rest.at edge) refl refl

front : (from to : ℕ) (xs ys : List ℕ) → NoneBetween from to (xs ++ ys) → NoneBetween from to xs
front from to [] ys none = tt
front from to (x ∷ xs) ys none = (none.0, front from to xs ys none.1)

back : (from to : ℕ) (xs ys : List ℕ) → NoneBetween from to (xs ++ ys) → NoneBetween from to ys
back from to [] ys none = none
back from to (x ∷ xs) ys none = back from to xs ys none.1

equal : (a b : Bool) → is_one_of a b ≡ false → a ≡ b
equal true true e = refl
equal true false e = absurd cc
equal false true e = absurd cc
equal false false e = refl

pub agrees_without_row : AgreesWithoutRow
agrees_without_row one other call none tick =
    let all = agree_from one other call None (0 ∷ edges_of one other) tt none in
    let edges : List ℕ = ends one ++ ends other in
    let last = last_of one other call tick edges all.0 (any_order one other call edges all.1) in
    let ours : decided one call tick ≡ decided one call last.at = decides_between one call last.at tick last.before (front last.at tick (ends one) (ends other) last.none) in
    let theirs : decided other call tick ≡ decided other call last.at = decides_between other call last.at tick last.before (back last.at tick (ends one) (ends other) last.none) in
    ap (λ (n : ℕ). allows (line_at one n)) ours
    ∙ equal (allows (line_at one (decided one call last.at))) (allows (line_at other (decided other call last.at))) last.agrees
    ∙ sym (ap (λ (n : ℕ). allows (line_at other n)) theirs)
