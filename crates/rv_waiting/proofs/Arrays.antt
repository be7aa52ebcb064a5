-- Arrays whose places are all alike.
use Rattle.std.proofs.Common.{◌≡◌, ℕ, zero, suc, get_or, replicate, refl}

pub all_alike : {X : Type 0} (n : ℕ) (x : X) (j : ℕ) → get_or (replicate n x) j x ≡ x
all_alike zero x j = refl
all_alike (suc n) x zero = refl
all_alike (suc n) x (suc j) = all_alike n x j
