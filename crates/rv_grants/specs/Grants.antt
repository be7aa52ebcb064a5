-- Who is granted which call by a list, by spans of ticks (own).
use Rattle.std.specs.Prelude.{◌≡◌, ◌⊎◌, ◌<◌, ◌≤◌, ℕ, Bool, true, false, ◌==◌, if◌then◌else◌, List, [], ◌∷◌, ◌++◌, codes, Option, Some, None}
use Rattle.std.specs.Fmt.{decimal}
use Rattle.rv_access.specs.Lines.{allows, decides, line_at}
use Rattle.rv_access.specs.Text.{line_text}
use Rattle.rv_access.specs.Windows.{end_tick, first_tick}
use Rattle.rv_access.specs.Words.{WindowWords, Words}
use Rattle.rv_shape.specs.Catalogue.{dotted}
use Rattle.rv_spans.specs.Spans.{in_order}

-- which unit calls which operation of which object, and whether what is told of that is JSON
pub record Call : Type 0 where
  pub caller : List ℕ
  pub unit : List ℕ
  pub object : List ℕ
  pub operation : List ℕ
  pub as_json : Bool

-- where a window begins and ends, if there is one
abbrev pub window_ends : Option WindowWords → List ℕ
window_ends None = []
window_ends (Some window) = first_tick window ∷ end_tick window ∷ []

-- where the windows of lines do
abbrev pub ends : List Words → List ℕ
ends [] = []
ends (line ∷ lines) = window_ends line.window ++ ends lines

-- these ticks in order: between two of them no other line may match
abbrev pub edges : List Words → List ℕ
edges list = in_order (ends list)

-- what a line decides; without one the call is denied
abbrev pub decision_text : Option Words → List ℕ
decision_text None = codes "not granted: no line"
decision_text (Some line) = (if line.allow then codes "granted: " else codes "not granted: ") ++ line_text line

-- who may call what, from a tick on
abbrev pub row : Call → ℕ → List ℕ → List ℕ
row call tick decision =
    call.caller ++ 32 ∷ (dotted call.unit call.object ++ 32 ∷ (call.operation ++ (codes " from tick " ++ (decimal tick
    ++ (codes " -> " ++ (decision ++ 10 ∷ []))))))

-- so as JSON: the ticks, and the fields of what is decided
abbrev pub json_row : Call → List ℕ → List ℕ → List ℕ
json_row call span decision =
    codes "{\"caller\":\"" ++ (call.caller ++ (codes "\",\"object\":\"" ++ (dotted call.unit call.object
    ++ (codes "\",\"operation\":\"" ++ (call.operation ++ (codes "\",\"from\":" ++ (span ++ (codes "," ++ (decision ++ (codes "}" ++ 10 ∷ []))))))))))

abbrev pub granted_word : Bool → List ℕ
granted_word true = codes "true"
granted_word false = codes "false"

-- the words of a line, if there is one
abbrev pub words_of : Option Words → List ℕ
words_of None = codes "no line"
words_of (Some line) = line_text line

-- what the line of this number decides; 0 where there is none
abbrev pub decision_fields : ℕ → Option Words → List ℕ
decision_fields number line =
    codes "\"granted\":" ++ (granted_word (allows line) ++ (codes ",\"line\":" ++ (decimal number ++ (codes ",\"line_text\":\"" ++ (words_of line ++ codes "\"")))))

-- what is told of a call from a tick on, by the line of this number
abbrev pub told : Call → ℕ → ℕ → Option Words → List ℕ
told call tick number line =
    if call.as_json then json_row call (decimal tick) (decision_fields number line) else row call tick (decision_text line)

-- the line that decides the call at a tick
abbrev pub decided : List Words → Call → ℕ → ℕ
decided list call tick = decides list call.caller (dotted call.unit call.object) call.operation tick

-- whether it decided before
abbrev pub is_again : Option ℕ → ℕ → Bool
is_again None number = false
is_again (Some last) number = last == number

-- what is told of a call from a tick on, at which the line of this number decides, where another decided before
abbrev pub change : List Words → Call → Option ℕ → ℕ → ℕ → List ℕ
change list call last tick number =
    if is_again last number then [] else told call tick number (line_at list number)

-- the rows of a call: one for each of these ticks at which another line decides than at the one before
abbrev pub grants_from : List Words → Call → Option ℕ → List ℕ → List ℕ
grants_from list call last [] = []
grants_from list call last (tick ∷ ticks) =
    change list call last tick (decided list call tick) ++ grants_from list call (Some (decided list call tick)) ticks

-- from tick 0 on
abbrev pub grants_text : List Words → Call → List ℕ
grants_text list call = grants_from list call None (0 ∷ edges list)

-- no tick of these is past one and up to another
abbrev pub NoneBetween : ℕ → ℕ → List ℕ → Type 0
NoneBetween from to [] = Unit {0}
NoneBetween from to (tick ∷ ticks) = ((tick ≤ from) ⊎ (to < tick)) × NoneBetween from to ticks

-- where no window begins or ends between two ticks, the same line decides at both
abbrev pub DecidesBetween : Type 0
DecidesBetween =
    (list : List Words) (call : Call) (from to : ℕ) → from ≤ to → NoneBetween from to (ends list)
    → decided list call to ≡ decided list call from
