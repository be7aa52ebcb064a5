-- Events without their settles, one after another (own).
use Rattle.std.proofs.Common.{◌≡◌, ◌≤◌, List, [], ◌∷◌, ◌++◌, length, Bool, true, false, cond, refl, ap, arith}
use Rattle.rv_behind.specs.declared.event.Event.{Event}
use Rattle.rv_accounts.specs.Seen.{but_settles, settles}

pub but_settles-append : (xs ys : List Event) → but_settles (xs ++ ys) ≡ but_settles xs ++ but_settles ys
but_settles-append [] ys = refl
but_settles-append (x ∷ xs) ys = by_test (settles x) (but_settles-append xs ys) where
  by_test : (s : Bool) → but_settles (xs ++ ys) ≡ but_settles xs ++ but_settles ys → cond s (but_settles (xs ++ ys)) (x ∷ but_settles (xs ++ ys)) ≡ cond s (but_settles xs) (x ∷ but_settles xs) ++ but_settles ys
  by_test true e = e
  by_test false e = ap (λ (l : List Event). x ∷ l) e

-- they are no more
pub fewer : (xs : List Event) → length (but_settles xs) ≤ length xs
fewer [] = omega arith
fewer (x ∷ xs) = by_test (settles x) (fewer xs) where
  by_test : (s : Bool) → length (but_settles xs) ≤ length xs → length (cond s (but_settles xs) (x ∷ but_settles xs)) ≤ length (x ∷ xs)
  by_test true less = omega (arith, less)
  by_test false less = omega (arith, less)
