-- What a push does to a list in an array.
use Rattle.std.specs.Prelude.{ℕ, ◌+◌, ◌-◌, ◌<◌, List, ℤ, pos, drop, replicate, set}
use Rattle.std.proofs.Common.{sym, ◌∙◌, ap, arith, length-set}
use Rattle.std.proofs.lemmas.List.{drop-set-lt, drop-drop, drop-replicate}
use Rattle.rv_value.specs.Padded.{IsPadded}

-- one more value in the place of a zero
pub IsPadded-set : {capacity : ℕ} {cells : List ℤ} {len : ℕ} (x : ℤ) → IsPadded capacity cells len → len < capacity → IsPadded capacity (set cells len x) (len + 1)
IsPadded-set {capacity} {cells} {len} x padded room =
    let whole = padded.whole in
    record {
      whole = length-set cells len x ∙ whole;
      within = omega arith;
      zeros =
          drop-set-lt (len + 1) cells len x (omega arith) ∙ sym (drop-drop 1 len cells) ∙ ap (drop 1) padded.zeros
          ∙ drop-replicate 1 (capacity - len) (pos 0) ∙ ap (λ n. replicate n (pos 0)) (omega arith);
    }
