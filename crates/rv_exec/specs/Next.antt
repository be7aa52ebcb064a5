-- What is asked next, after the answers so far (own).
use Rattle.std.specs.Prelude.{if◌then◌else◌, List, [], ◌∷◌, Option, Some, None}
use Rattle.rv_event.specs.declared.entry.Request.{Request}
use Rattle.rv_event.specs.declared.entry.Answer.{Answer}
use Rattle.rv_exec.specs.Asking.{stands, Asking, ended, asking}

-- the answers that leave no request standing, in order
abbrev pub settling : List Answer → List Answer
settling [] = []
settling (answer ∷ more) = if stands answer then settling more else answer ∷ settling more

-- the request behind these answers, or none where it has ended
abbrev pub next_of : {A : Type 0} → Asking A → List Answer → Option Request
next_of (ended a) answers = None
next_of (asking request next) [] = Some request
next_of (asking request next) (answer ∷ answers) = next_of (next answer) answers
