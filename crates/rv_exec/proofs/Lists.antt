-- Steps of the loop over components.
use Rattle.std.proofs.Common.{◌≡◌, ℕ, ◌+◌, ◌<◌, List, [], ◌∷◌, ◌++◌, ℤ, pos, length, get_or, take, slice_set, sym, ap, subst, ◌∙◌, add-one, arith}
use Rattle.std.proofs.Math.Seq.{take-suc, lt-length-set}
use Rattle.std.proofs.lemmas.List.{get_or-set_same, get_or-set_other}

-- the front of a list with a value put at an index, longer by that value
pub front_same : (xs : List ℤ) (i k : ℕ) (v : ℤ) → k ≡ i → k < length xs → take k (slice_set xs i v) ++ v ∷ [] ≡ take (k + 1) (slice_set xs i v)
front_same xs i k v same lt =
    let l : i < length xs = omega (arith, same, lt) in
    let e : take i (slice_set xs i v) ++ v ∷ [] ≡ take (i + 1) (slice_set xs i v) =
    rw add-one (sym (take-suc (slice_set xs i v) i (pos 0) (lt-length-set xs i v l) ∙ ap (λ w. take i (slice_set xs i v) ++ w ∷ []) (get_or-set_same xs i v (pos 0) l))) in
    subst (λ n. take n (slice_set xs i v) ++ v ∷ [] ≡ take (n + 1) (slice_set xs i v)) (sym same) e

-- the same, longer by another value
pub front_other : (xs : List ℤ) (i k : ℕ) (v old : ℤ) → (k ≡ i → ⊥) → k < length xs → old ≡ get_or xs k (pos 0) → take k (slice_set xs i v) ++ old ∷ [] ≡ take (k + 1) (slice_set xs i v)
front_other xs i k v old other lt is =
    rw add-one (sym (take-suc (slice_set xs i v) k (pos 0) (lt-length-set xs i v lt) ∙ ap (λ w. take k (slice_set xs i v) ++ w ∷ []) (get_or-set_other xs i k v (pos 0) other ∙ sym is)))
