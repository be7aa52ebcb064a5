-- What a map keeps for words, once they are counted.
use Rattle.std.proofs.Common.{◌≡◌, ℕ, Bool, true, false, List, Option, Some, cond, refl, ap, ◌∙◌, if◌then◌else◌}
use Rattle.std.specs.Cmp.Lexicographic.{bytes_decides}
use Rattle.std.specs.Str.{bytes_eq}
use Rattle.rv_tallied.specs.Tallies.{added, counted, more, once_more, or_never}
use Rattle.rv_tallied.specs.declared.tallies.Tally.{Tally}

pub count_is : (new old : List ℕ → Option Tally) (key : List ℕ) (grants : Bool) (tally : Tally) → tally ≡ once_more grants (or_never (old key)) → ((words : List ℕ) → new words ≡ cond (bytes_eq key words) (Some tally) (old words)) →
    (words : List ℕ) → or_never (new words) ≡ counted key grants words (or_never (old words))
count_is new old key grants tally is sets words = ap or_never (sets words) ∙ by (bytes_eq key words) refl
  where
    by : (b : Bool) → bytes_eq key words ≡ b → or_never (cond b (Some tally) (old words)) ≡ (if b then once_more grants (or_never (old words)) else or_never (old words))
    by true e = is ∙ ap (λ (k : List ℕ). once_more grants (or_never (old k))) ((bytes_decides key words).0 e)
    by false e = refl

pub add_is : (new old : List ℕ → Option Tally) (key : List ℕ) (times : ℕ) (grants : Bool) (tally : Tally) → tally ≡ more times grants (or_never (old key)) → ((words : List ℕ) → new words ≡ cond (bytes_eq key words) (Some tally) (old words)) →
    (words : List ℕ) → or_never (new words) ≡ added key times grants words (or_never (old words))
add_is new old key times grants tally is sets words = ap or_never (sets words) ∙ by (bytes_eq key words) refl
  where
    by : (b : Bool) → bytes_eq key words ≡ b → or_never (cond b (Some tally) (old words)) ≡ (if b then more times grants (or_never (old words)) else or_never (old words))
    by true e = is ∙ ap (λ (k : List ℕ). more times grants (or_never (old k))) ((bytes_decides key words).0 e)
    by false e = refl
