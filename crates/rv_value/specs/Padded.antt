-- A list of numbers in an array of some capacity, with zeros behind it.
use Rattle.std.specs.Prelude.{◌≡◌, ℕ, ◌-◌, ◌≤◌, List, ◌++◌, ℤ, pos, take, drop, length, replicate}
use Rattle.std.proofs.Common.{sym, ◌∙◌, ap, arith, length-take-le}
use Rattle.std.proofs.lemmas.List.{take-append-drop}

-- the cells are an array of this capacity, in which zeros follow the first `len` (own)
pub record IsPadded (capacity : ℕ) (cells : List ℤ) (len : ℕ) : Type 0 where
  pub whole : length cells ≡ capacity
  pub within : len ≤ capacity
  pub zeros : drop len cells ≡ replicate (capacity - len) (pos 0)

-- the array of this capacity that holds these values (own)
abbrev pub with_zeros : ℕ → List ℤ → List ℤ
with_zeros capacity values = values ++ replicate (capacity - length values) (pos 0)

-- the values that such an array holds are `len`
pub length-take-padded : {capacity : ℕ} {cells : List ℤ} {len : ℕ} → IsPadded capacity cells len → length (take len cells) ≡ len
length-take-padded {cells} {len} padded =
    let whole = padded.whole in let within = padded.within in length-take-le len cells (omega arith)

-- the values give the array back
pub with_zeros-take : {capacity : ℕ} {cells : List ℤ} {len : ℕ} → IsPadded capacity cells len → with_zeros capacity (take len cells) ≡ cells
with_zeros-take {capacity} {cells} {len} padded =
    ap (λ n. take len cells ++ replicate (capacity - n) (pos 0)) (length-take-padded padded)
    ∙ ap (λ (xs : List ℤ). take len cells ++ xs) (sym padded.zeros) ∙ take-append-drop len cells
