-- The fields before and after a unit is loaded (own).
use Rattle.std.specs.Prelude.{◌≡◌, ℕ, ◌<◌, ◌≤◌, false, List, [], length, slice_index_or}
use Rattle.rv_object.specs.Actions.{ObjectView}
use Rattle.rv_shape.specs.Catalogue.{all_objects, initial}
use Rattle.rv_shape.specs.Shape.{Shape}
use Rattle.rv_history.specs.Owed.{actors}
use Rattle.rv_present.specs.declared.present.Present.{Present}
use Rattle.rv_present.specs.Holdings.{idle}
use Rattle.rv_present.specs.Limits.{most_actors, most_places}

-- the objects after one number and up to another have their initial scalars, and nobody in them; the others are as they were
pub record AreRenewed (shapes : List Shape) (before last : ℕ) (old new : List ObjectView) : Type 0 where
  pub long : length new ≡ length old
  pub kept : (object : ℕ) → object ≤ before → slice_index_or new object idle ≡ slice_index_or old object idle
  pub past : (object : ℕ) → last < object → slice_index_or new object idle ≡ slice_index_or old object idle
  pub fresh : (object : ℕ) → before < object → object ≤ last →
      slice_index_or new object idle ≡ record { actions = []; unsettled = false; scalars = initial shapes object }

-- the new objects have their initial scalars, the new actors are among those that owe, and all else is as it was
pub record HasGrown (shapes : List Shape) (old new : Present) : Type 0 where
  pub stacks_are : new.bodies.stacks ≡ old.bodies.stacks
  pub number_is : new.bodies.number ≡ old.bodies.number
  pub unsettled_is : new.unsettled ≡ old.unsettled
  pub objects_are : AreRenewed shapes old.places (length (all_objects shapes)) old.bodies.objects new.bodies.objects
  pub stances_are : new.stances.stances ≡ old.stances.stances
  pub actors_are : new.stances.actors ≡ actors shapes
  pub calls_are : new.calls ≡ old.calls
  pub counts_are : new.counts ≡ old.counts
  pub places_are : new.places ≡ length (all_objects shapes)
  pub few_actors : actors shapes ≤ most_actors
  pub few_objects : length (all_objects shapes) < most_places
