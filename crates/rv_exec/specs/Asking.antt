-- What asks an outside, and goes on by its answers (own).
use Rattle.std.specs.Prelude.{◌≡◌, Bool, true, false, List, [], ◌∷◌}
use Rattle.rv_event.specs.declared.entry.Request.{Request}
use Rattle.rv_event.specs.declared.entry.Answer.{Answer}
use Rattle.rv_event.specs.declared.entry.Answer.TheVariants as answer

-- whether the answer leaves its request standing, which is then asked again (own)
abbrev pub stands : Answer → Bool
stands answer.Busy = true
stands answer.Waiting = true
stands answer.Misuse = true
stands other = false

abbrev pub Trace : Type 0
Trace = List (Request × Answer)

-- it has ended with a value, or it asks one request and goes on by the answer: so for all answers there is one next
-- request or one end
pub data Asking (A : Type 0) : Type 0 where
  ended : A → Asking A
  asking : Request → (Answer → Asking A) → Asking A

-- goes on from where the first ends
abbrev pub and_then : {A B : Type 0} → Asking A → (A → Asking B) → Asking B
and_then (ended a) go = go a
and_then (asking request next) go = asking request (λ answer. and_then (next answer) go)

-- with these requests and answers it comes to this end
abbrev pub Along : {A : Type 0} → Asking A → Trace → A → Type 0
Along (ended a) [] end = a ≡ end
Along (ended a) (pair ∷ more) end = ⊥
Along (asking request next) [] end = ⊥
Along (asking request next) (pair ∷ more) end = (request ≡ pair.0) × Along (next pair.1) more end

-- the same, on a trace that leads from one state of an outside to another
pub record Ran {S A : Type 0} (went : S → Trace → S → Type 0) (before : S) (what : Asking A) (after : S) (end : A) : Type 0 where
  pub trace : Trace
  pub along : Along what trace end
  pub outside : went before trace after
