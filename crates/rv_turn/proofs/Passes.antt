-- What the tests need of lists of passes.
use Rattle.std.proofs.Common.{ℕ, ◌+◌, ◌≤◌, List, [], ◌∷◌, ⊎_elim, arith}
use Rattle.rv_turn.specs.Histories.{Has, Each}

-- a number above all of a list doesn't stand in it
pub not_among : (n : ℕ) (l : List ℕ) → Each (λ a. a ≤ n) l → Has (n + 1) l → ⊥
not_among n [] e h = h
not_among n (x ∷ xs) e h = ⊎_elim (λ is. let le = e.0 in absurd (omega (arith, is, le))) (λ later. not_among n xs e.1 later) h

-- what is at most n is at most one more
pub each_below : (n : ℕ) (l : List ℕ) → Each (λ a. a ≤ n) l → Each (λ a. a ≤ n + 1) l
each_below n [] e = tt
each_below n (x ∷ xs) e = (let le = e.0 in omega (arith, le), each_below n xs e.1)
