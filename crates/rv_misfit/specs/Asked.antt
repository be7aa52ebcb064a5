-- What a step asks: whose request it is, over the units that are loaded, or which change of the list (own).
use Rattle.std.specs.Prelude.{◌≡◌, ℕ, ◌≤◌, List, Some}
use Rattle.rv_access.specs.declared.change.Change.{Change}
use Rattle.rv_access.specs.declared.change.Change.TheVariants.{Whole, Append, Remove, Replace}
use Rattle.rv_event.specs.declared.entry.Request.{Request}
use Rattle.rv_shape.specs.Limits.{last_line}
use Rattle.rv_shape.specs.Shape.{Shape}
use Rattle.rv_step.specs.Lookup.{actor_of, request_of}
use Rattle.rv_step.specs.StepText.{StepWords}
use Rattle.rv_step.specs.declared.step.Asker.{Asker}
use Rattle.rv_step.specs.declared.step.Asker.TheVariants.{Operator, Line, Task}

-- a line is one of the ten, `Int_0` .. `Int_9`
abbrev pub IsNumbered : Asker → Type 0
IsNumbered Operator = Unit {0}
IsNumbered (Line line) = line ≤ last_line
IsNumbered (Task name) = Unit {0}

-- the step is this request of this actor: what it names is loaded
pub record IsAsked (shapes : List Shape) (step : StepWords) (actor : ℕ) (request : Request) : Type 0 where
  pub numbered : IsNumbered step.asker
  pub asker : actor_of shapes step.asker ≡ Some actor
  pub asked : request_of shapes step.asked ≡ Some request

-- a change of one line of the list, as a step makes it
abbrev pub IsOfOneLine : Change → Type 0
IsOfOneLine (Whole list) = ⊥
IsOfOneLine (Append line) = Unit {0}
IsOfOneLine (Remove number) = Unit {0}
IsOfOneLine (Replace number line) = Unit {0}
