-- Who may have a port. (own)
use Rattle.std.specs.Prelude.{◌≡◌, ℕ, ◌-◌, nat_lt, Bool, true, false, List, is_some}
use Rattle.rv_shape.specs.Shape.{Shape}
use Rattle.rv_shape.specs.Catalogue.{Who, Operator, Line, Task, Nobody, who, first_task, handler}

-- one who may have a port: a task, or a line that has a handler (own)
abbrev pub performs : List Shape → Who → Bool
performs shapes (Line line) = is_some (handler shapes line)
performs shapes (Task task) = true
performs shapes Operator = false
performs shapes Nobody = false

abbrev pub is_performer : List Shape → ℕ → Bool
is_performer shapes actor = performs shapes (who shapes actor)

-- An actor that is a line has a handler (C.3.1).
pub record HasHandler (shapes : List Shape) (actor : ℕ) : Type 0 where
  pub handled : nat_lt actor first_task ≡ true → is_some (handler shapes (actor - 1)) ≡ true
