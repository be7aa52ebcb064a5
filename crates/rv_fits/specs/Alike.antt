-- Objects that share their bodies, and whose entries have the same numbers (own).
use Rattle.std.specs.Prelude.{◌≡◌, ◌<◌, ℕ, ◌+◌, Bool, true, List, length, Option, Some, None, slice_get}
use Rattle.rv_shape.specs.Catalogue.{UnitObject, operations_of, target}
use Rattle.rv_shape.specs.Shape.{Shape}
use Rattle.rv_code.specs.BodyView.{list_at}
use Rattle.rv_code.specs.declared.body.ObjectBodies.{ObjectBodies}
use Rattle.rv_fits.specs.Calls.{object_calls, such_in}
use Rattle.rv_fits.specs.Fits.{callee_fits, calls_entry}

-- how many operations a protected object has
abbrev pub operation_count : Option UnitObject → ℕ
operation_count None = 0
operation_count (Some at) = length (operations_of at.object)

-- the entries of two objects have the same numbers
abbrev pub AreAlike : List Shape → ℕ → ℕ → Type 0
AreAlike shapes one other = (n : ℕ) → calls_entry (target shapes one n) ≡ calls_entry (target shapes other n)

-- an object of a unit is before the one of an index, has this list of bodies, and its entries are like those of that one
abbrev pub IsShared : List Shape → List ℕ → ℕ → ℕ → ℕ → ℕ → Type 0
IsShared shapes objects index list first at =
    (at < index) × (slice_get objects at ≡ Some list) × AreAlike shapes (first + at) (first + index)

-- the calls of the bodies of the object of an index fit, where the unit's first object has this number
abbrev pub bodies_fit_in : List Shape → List ObjectBodies → ℕ → Option ℕ → Bool
bodies_fit_in shapes lists object None = true
bodies_fit_in shapes lists object (Some list) = object_calls (such_in (callee_fits shapes) object) (list_at lists list)

abbrev pub bodies_fit_at : List Shape → ℕ → List ObjectBodies → List ℕ → ℕ → Bool
bodies_fit_at shapes first lists objects index = bodies_fit_in shapes lists (first + index) (slice_get objects index)
