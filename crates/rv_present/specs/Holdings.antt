-- The bodies under way, as the stack of their actor and the object that they are on see them (own).
use Rattle.std.specs.Prelude.{ℕ, ◌==◌, if◌then◌else◌, false, List, [], map}
use Rattle.std.specs.List.{filter}
use Rattle.rv_prio.specs.declared.held.Held.{Held}
use Rattle.rv_object.specs.Actions.{ObjectView}
use Rattle.rv_object.specs.declared.action.Action.{Action}
use Rattle.rv_object.specs.declared.action.Action.TheVariants.{Shared, Exclusive}
use Rattle.rv_shape.specs.Shape.{Shape}
use Rattle.rv_shape.specs.Catalogue.{target, shares, ceiling}
use Rattle.rv_event.specs.declared.entry.Body.{Body}

-- a function's body shares its object, another has it alone (9.5.1)
abbrev pub action_of : List Shape → Body → Action
action_of shapes body = if shares (target shapes body.object body.operation) then Shared else Exclusive body.actor

-- the actions of the bodies on an object, the newest first
abbrev pub actions_on : List Shape → ℕ → List Body → List Action
actions_on shapes object bodies = map (action_of shapes) (filter (λ body. body.object == object) bodies)

-- the object that a body holds, with its ceiling (D.3)
abbrev pub held_of : List Shape → Body → Held
held_of shapes body = record { object = body.object; operation = body.operation; ceiling = ceiling shapes body.object }

-- all that an actor holds, the innermost first
abbrev pub holdings : List Shape → ℕ → List Body → List Held
holdings shapes actor bodies = map (held_of shapes) (filter (λ body. body.actor == actor) bodies)

-- a settled object with nobody in it, and without scalars
abbrev pub idle : ObjectView
idle = record { actions = []; unsettled = false; scalars = [] }
