-- What is known of bodies that may be loaded.
use Rattle.std.proofs.Common.{◌≡◌, true, List, [], ◌∷◌, ◌++◌}
use Rattle.std.specs.Prelude.{◌&&◌}
use Rattle.rv_shape.specs.Shape.{Shape}
use Rattle.rv_code.specs.Bodies.{UnitBodies}
use Rattle.rv_ranged.specs.Ranged.{ranges_fit}
use Rattle.rv_fits.specs.Fits.{are_of, numbered_as, unit_calls_fit}
use Rattle.rv_fits.proofs.Both.{first_of_both, second_of_both}

-- they are numbered as their shape is, and their calls fit
both_found : (shapes : List Shape) (shape : Shape) (unit : UnitBodies) → are_of shapes shape unit ≡ true → (numbered_as shape unit && unit_calls_fit shapes shape unit) ≡ true
both_found shapes shape unit e = first_of_both (numbered_as shape unit && unit_calls_fit shapes shape unit) (ranges_fit (shapes ++ shape ∷ []) shape.objects unit) e

pub numbered_found : (shapes : List Shape) (shape : Shape) (unit : UnitBodies) → are_of shapes shape unit ≡ true → numbered_as shape unit ≡ true
numbered_found shapes shape unit e = first_of_both (numbered_as shape unit) (unit_calls_fit shapes shape unit) (both_found shapes shape unit e)

pub calls_found : (shapes : List Shape) (shape : Shape) (unit : UnitBodies) → are_of shapes shape unit ≡ true → unit_calls_fit shapes shape unit ≡ true
calls_found shapes shape unit e = second_of_both (numbered_as shape unit) (unit_calls_fit shapes shape unit) (both_found shapes shape unit e)

-- and their values lie in their ranges
pub ranges_found : (shapes : List Shape) (shape : Shape) (unit : UnitBodies) → are_of shapes shape unit ≡ true → ranges_fit (shapes ++ shape ∷ []) shape.objects unit ≡ true
ranges_found shapes shape unit e = second_of_both (numbered_as shape unit && unit_calls_fit shapes shape unit) (ranges_fit (shapes ++ shape ∷ []) shape.objects unit) e
