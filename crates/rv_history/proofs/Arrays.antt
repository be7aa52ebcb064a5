-- What is so of the written place of an array and of each other is so of all.
use Rattle.std.proofs.Common.{◌≡◌, ◌≢◌, ℕ, ◌<◌, List, length, get_or, set, Bool, true, false, arith, subst, sym, refl}
use Rattle.std.specs.Prelude.{◌==◌}
use Rattle.std.proofs.lemmas.Bool.Decides.{nat_tests}
use Rattle.std.proofs.lemmas.Grind.{get_or-set_at}
use Rattle.std.proofs.lemmas.List.{get_or-set_other}
use Rattle.rv_history.proofs.Stances.{same_number}

pub at_set : {X : Type 0} (xs : List X) (i : ℕ) (x d : X) (P : ℕ → X → Type 0) → i < length xs → P i x → ((j : ℕ) → j ≢ i → P j (get_or xs j d)) → (j : ℕ) → P j (get_or (set xs i x) j d)
at_set xs i x d P some here others j = by_test (j == i) refl
  where
    by_test : (t : Bool) → (j == i) ≡ t → P j (get_or (set xs i x) j d)
    by_test true is =
        let same : j ≡ i = same_number j i is in
        subst (λ k. P k (get_or (set xs i x) k d)) (sym same) (subst (P i) (sym (get_or-set_at xs i i x d refl some)) here)
    by_test false is =
        let other : j ≢ i = grind (arith, nat_tests) in
        subst (P j) (sym (get_or-set_other xs i j x d other)) (others j other)
