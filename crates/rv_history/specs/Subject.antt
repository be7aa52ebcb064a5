-- Who calls, for the access list (own), and at which priority (D.1, D.3).
use Rattle.std.specs.Prelude.{ℕ, ◌+◌, List, [], map, Some, None, Option, codes}
use Rattle.rv_prio.specs.Priority.{greatest}
use Rattle.rv_shape.specs.Catalogue.{UnitObject, Who, Operator, Line, Task, Nobody, who, place, ceiling}
use Rattle.rv_event.specs.Past.{held, innermost}
use Rattle.rv_event.specs.declared.entry.Body.{Body}
use Rattle.rv_history.specs.History.{History}

-- the home of an actor: a task's unit, and for a line the reserved name `Interrupts`
abbrev pub home : Who → List ℕ
home Operator = []
home (Line line) = codes "Interrupts"
home (Task task) = task.unit
home Nobody = []

-- the unit of an object
abbrev pub unit_at : Option UnitObject → List ℕ
unit_at None = []
unit_at (Some found) = found.unit

-- by the innermost body, if there is one
abbrev pub subject_of : History → ℕ → Option Body → List ℕ
subject_of h actor None = home (who h.shapes actor)
subject_of h actor (Some body) = unit_at (place h.shapes body.object)

-- the subject of a call: the unit of the innermost object that the actor holds, else its home; a line
-- that fires holds nothing, so its subject is its home
abbrev pub subject : History → ℕ → List ℕ
subject h actor = subject_of h actor (innermost h.shapes actor h.past)

-- the base priority (D.1); that of Int_K is 31 + K (C.3, own)
abbrev pub base_of : Who → ℕ
base_of Operator = 0
base_of (Line line) = 31 + line
base_of (Task task) = task.task.priority
base_of Nobody = 0

-- the active priority: the greatest of the base priority and the ceilings of the objects that the actor holds (D.3)
abbrev pub active : History → ℕ → ℕ
active h actor =
    greatest (base_of (who h.shapes actor)) (map (λ body. ceiling h.shapes body.object) (held h.shapes actor h.past))
