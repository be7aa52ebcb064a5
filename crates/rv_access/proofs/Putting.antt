-- A list with a line put at a place.
use Rattle.std.proofs.Common.{◌≡◌, ℕ, ◌+◌, ◌-◌, ◌<◌, ◌≤◌, List, ◌∷◌, ◌++◌, length, set, take, drop, refl, sym, ap, ◌∙◌, arith}
use Rattle.std.proofs.lemmas.List.{take-append-drop, take-set, drop-set}

set_is : {X : Type 0} (xs : List X) (i : ℕ) (x : X) → i < length xs → set xs i x ≡ take i xs ++ x ∷ drop (i + 1) xs
set_is xs i x h = sym (take-append-drop i (set xs i x)) ∙ (rw (take-set xs i x, drop-set xs i x h) refl)

pub put_is : {X : Type 0} (xs : List X) (number : ℕ) (x : X) → 0 < number → number ≤ length xs → set xs (number - 1) x ≡ take (number - 1) xs ++ x ∷ drop number xs
put_is xs number x some h =
    let i : (number - 1) + 1 ≡ number = omega arith in
    set_is xs (number - 1) x (omega arith) ∙ ap (λ (n : ℕ). take (number - 1) xs ++ x ∷ drop n xs) i
