-- What is decided of the head of a queue is what becomes of the queue.
use Rattle.std.proofs.Common.{◌≡◌, ℕ, Bool, List, [], ◌∷◌, Some, slice_get, refl}
use Rattle.rv_event.specs.declared.entry.Body.{Body}
use Rattle.rv_shape.specs.Catalogue.{Target, target}
use Rattle.rv_history.specs.Due.{judged_head, next_of_queue}
use Rattle.rv_history.specs.History.{History}
use Rattle.rv_history.specs.Rules.{decided, granted}
use Rattle.rv_history.specs.Subject.{subject}

pub head_served : (h : History) (call : Body) (called : Target) (allowed : Bool) (line : ℕ) (calls : List Body) → slice_get calls 0 ≡ Some call → called ≡ target h.shapes call.object call.operation →
    allowed ≡ granted h (subject h call.actor) called → line ≡ decided h (subject h call.actor) called → judged_head allowed line call.actor ≡ next_of_queue h calls
head_served h call called allowed line [] is at grant by = absurd cc
head_served h call called allowed line (first ∷ calls) is at grant by =
    let same : first ≡ call = cc in
    rw (grant, by, at, same) refl
