-- How many tasks a load may bring.
use Rattle.std.proofs.Common.{◌≡◌, ℕ, ◌+◌, ◌≤◌, List, length, Option, Some, None, Bool, true, false, arith, refl}
use Rattle.std.specs.Prelude.{nat_lt, ◌||◌, if◌then◌else◌}
use Rattle.std.specs.List.{list_any}
use Rattle.std.proofs.lemmas.Bool.Decides.{nat_tests}
use Rattle.rv_shape.specs.Shape.{Shape}
use Rattle.rv_shape.specs.Catalogue.{all_tasks, all_objects}
use Rattle.rv_shape.specs.Fits.{fault, name_taken, too_many, crowded}
use Rattle.rv_shape.specs.declared.fault.ShapeFault.{ShapeFault}
use Rattle.rv_shape.specs.declared.fault.ShapeFault.TheVariants.{NameTaken, TooMany}
use Rattle.rv_history.specs.Owed.{actors}

third : (a b c d : Bool) → (((a || b) || c) || d) ≡ false → c ≡ false
third true b c d e = absurd (cc)
third false true c d e = absurd (cc)
third false false true d e = absurd (cc)
third false false false d e = refl

none_many : (shapes : List Shape) (shape : Shape) → fault shapes shape ≡ None → too_many shapes shape ≡ false
none_many shapes shape e = by_tests (name_taken shapes shape) (too_many shapes shape) _ e
  where
    by_tests : (a b : Bool) (rest : Option ShapeFault) → (if a then Some NameTaken else (if b then Some TooMany else rest)) ≡ None → b ≡ false
    by_tests true b rest e = absurd (cc)
    by_tests false true rest e = absurd (cc)
    by_tests false false rest e = refl

at_most : (n m : ℕ) → nat_lt 64 (n + m) ≡ false → 11 + n + m ≤ 75
at_most n m e = grind (arith, nat_tests, e)

pub few_actors : (shapes : List Shape) (shape : Shape) → fault shapes shape ≡ None → actors shapes + length shape.tasks ≤ 75
few_actors shapes shape e =
    at_most (length (all_tasks shapes)) (length shape.tasks)
    (third (nat_lt 64 (length shapes + 1)) (nat_lt 256 (length (all_objects shapes) + length shape.objects)) (nat_lt 64 (length (all_tasks shapes) + length shape.tasks)) (list_any crowded shape.objects) (none_many shapes shape e))
