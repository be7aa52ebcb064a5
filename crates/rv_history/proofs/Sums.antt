-- Sums over the actors, when one or none of them changes.
use Rattle.std.proofs.Common.{◌≡◌, ◌≢◌, ℕ, zero, suc, ◌+◌, ◌<◌, ◌≤◌, Bool, true, false, arith, ap, sym, ◌∙◌, refl}
use Rattle.std.specs.Prelude.{◌==◌}
use Rattle.std.proofs.lemmas.Bool.Decides.{nat_tests}
use Rattle.rv_history.specs.Owed.{each}

pub each_same : (n : ℕ) (f g : ℕ → ℕ) → ((j : ℕ) → j < n → f j ≡ g j) → each n f ≡ each n g
each_same zero f g h = refl
each_same (suc n) f g h =
    let here : f n ≡ g n = h n (omega arith) in
    let rest : each n f ≡ each n g = each_same n f g (λ j k. h j (omega (arith, k))) in
    λ i. here i + rest i

pub each_less : (n : ℕ) (f g : ℕ → ℕ) → ((j : ℕ) → f j ≤ g j) → each n f ≤ each n g
each_less zero f g h = omega arith
each_less (suc n) f g h = omega (arith, h n, each_less n f g h)

-- one that changes
pub each_change : (n k : ℕ) (f g : ℕ → ℕ) → k < n → ((j : ℕ) → j ≢ k → f j ≡ g j) → each n f + g k ≡ each n g + f k
each_change zero k f g some h = omega (arith, some)
each_change (suc n) k f g some h = by_test (k == n) refl (λ less. each_change n k f g less h)
  where
    by_test : (t : Bool) → (k == n) ≡ t → (k < n → each n f + g k ≡ each n g + f k) → f n + each n f + g k ≡ g n + each n g + f k
    by_test true e rest =
        let same : k ≡ n = grind (arith, nat_tests) in
        let others : each n f ≡ each n g = each_same n f g (λ j less. h j (λ is. omega (arith, less, is, same))) in
        ap (λ m. f n + each n f + g m) same ∙ omega (arith, others) ∙ ap (λ m. g n + each n g + f m) (sym same)
    by_test false e rest =
        let other : n ≢ k = grind (arith, nat_tests) in
        let less : k < n = omega (arith, some, other) in
        omega (arith, rest less, h n other)
