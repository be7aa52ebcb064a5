-- The lanes of a timeline (own): an actor on an object each.
use Rattle.std.specs.Prelude.{ℕ, zero, suc, ◌+◌, ◌==◌, Bool, true, false, List, [], ◌∷◌, ◌++◌, length}
use Rattle.std.specs.List.{list_any}
use Rattle.rv_shape.specs.Catalogue.{all_objects, all_tasks, first_task, place, who}
use Rattle.rv_shape.specs.Printed.{actor_text}
use Rattle.rv_shape.specs.Shape.{Shape}
use Rattle.rv_lasting.specs.Rows.{object_text}
use Rattle.rv_picture.specs.Bars.{of_actor}
use Rattle.rv_picture.specs.declared.bar.Bar.{Bar}
use Rattle.rv_picture.specs.declared.lane.Lane.{Lane}

-- one of these bars is on an object
abbrev pub is_on_object : ℕ → List Bar → Bool
is_on_object object bars = list_any (λ bar. bar.begun.call.object == object) bars

-- with one more behind the others, if it is to be
abbrev pub with_lane : Bool → ℕ → ℕ → List Lane → List Lane
with_lane false actor object lanes = lanes
with_lane true actor object lanes = lanes ++ record { actor = actor; object = object; place = length lanes } ∷ []

-- with those of an actor, of its bars on the objects below a number
abbrev pub lanes_on : ℕ → List Bar → ℕ → List Lane → List Lane
lanes_on actor bars zero lanes = lanes
lanes_on actor bars (suc object) lanes = with_lane (is_on_object object bars) actor object (lanes_on actor bars object lanes)

-- those of the actors below a number
abbrev pub lanes_of : List Shape → List Bar → ℕ → List Lane
lanes_of shapes bars zero = []
lanes_of shapes bars (suc actor) =
    lanes_on actor (of_actor actor bars) (suc (length (all_objects shapes))) (lanes_of shapes bars actor)

-- those of all, each of which has a bar
abbrev pub lanes : List Shape → List Bar → List Lane
lanes shapes bars = lanes_of shapes bars (first_task + length (all_tasks shapes))

-- `Unit.Task Unit.Object`
abbrev pub lane_name : List Shape → ℕ → ℕ → List ℕ
lane_name shapes actor object = actor_text (who shapes actor) ++ 32 ∷ object_text (place shapes object)
