-- Where the parts of units stand, so that no unit has to be walked over to find one (own).
use Rattle.std.specs.Prelude.{◌≡◌, ◌<◌, ℕ, zero, suc, ◌+◌, List, [], ◌∷◌, ◌++◌, length, Option, Some, None, slice_get, slice_index_or}
use Rattle.std.specs.Option.{option_map}
use Rattle.rv_shape.specs.Catalogue.{OperationNumber, handler, numbered, objects_of, tasks_of}
use Rattle.rv_shape.specs.Shape.{Shape}
use Rattle.rv_shape.specs.declared.catalogue.places.Place.{Place}

-- the places of so many parts of the unit of a number, the first of them at this place
abbrev pub places_from : ℕ → ℕ → ℕ → List Place
places_from unit part zero = []
places_from unit part (suc parts) = record { unit = unit; part = part } ∷ places_from unit (part + 1) parts

-- the places of the parts of units, the first of which has this number
abbrev pub places : {X : Type 0} → (Shape → List X) → ℕ → List Shape → List Place
places parts unit [] = []
places parts unit (shape ∷ shapes) = places_from unit 0 (length (parts shape)) ++ places parts (unit + 1) shapes

-- the part of this place in a unit, from 0
abbrev pub part_in : {X : Type 0} → (Shape → List X) → ℕ → Option Shape → Option X
part_in parts part None = None
part_in parts part (Some shape) = slice_get (parts shape) part

-- the part at a place
abbrev pub part_at : {X : Type 0} → (Shape → List X) → List Shape → Place → Option X
part_at parts shapes place = part_in parts place.part (numbered shapes place.unit)

-- a pair of numbers as the operation that it is
abbrev pub operation_of : ℕ × ℕ → OperationNumber
operation_of pair = record { object = pair.0; operation = pair.1 }

-- each line's handler
abbrev pub AreHandlers : List Shape → List (Option (ℕ × ℕ)) → Type 0
AreHandlers shapes handlers =
    (line : ℕ) → line < 10 → option_map operation_of (slice_index_or handlers line None) ≡ handler shapes line

-- the places of all tasks and of all objects, and the handlers of all lines
pub record IsIndexed (shapes : List Shape) (tasks objects : List Place) (handlers : List (Option (ℕ × ℕ))) : Type 0 where
  pub tasks_are : tasks ≡ places tasks_of 1 shapes
  pub objects_are : objects ≡ places objects_of 1 shapes
  pub handlers_are : AreHandlers shapes handlers
