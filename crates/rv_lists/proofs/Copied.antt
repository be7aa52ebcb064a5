-- Copies of what is kept of lists are of the same lists.
use Rattle.std.proofs.Common.{◌≡◌, ℕ, ◌+◌, ◌<◌, ◌∙◌, ap, sym, List, [], ◌∷◌, ◌++◌, length, take, get_or}
use Rattle.std.proofs.lemmas.List.{take_more}
use Rattle.rv_access.specs.Words.{Words}
use Rattle.rv_lists.specs.Kept.{after, following, next}
use Rattle.rv_lists.specs.declared.kept.Kept.{Kept}
use Rattle.rv_lists.proofs.Following.{after_push, following_push}

-- one more
pub copied_more : (copies kept : List Kept) (i : ℕ) (one copy : Kept) → i < length kept → one ≡ get_or kept i one →
    ((before : List Words) → next before copy ≡ next before one) → following [] copies ≡ following [] (take i kept) → after [] copies ≡ after [] (take i kept) →
    (following [] (copies ++ copy ∷ []) ≡ following [] (take (i + 1) kept)) × (after [] (copies ++ copy ∷ []) ≡ after [] (take (i + 1) kept))
copied_more copies kept i one copy there is same lists last =
    let more : take (i + 1) kept ≡ take i kept ++ one ∷ [] = take_more kept i one there ∙ ap (λ (x : Kept). take i kept ++ x ∷ []) (sym is) in
    let newest : next (after [] copies) copy ≡ next (after [] (take i kept)) one = same (after [] copies) ∙ ap (λ (before : List Words). next before one) last in (
      following_push [] copies copy
          ∙ (λ j. lists j ++ newest j ∷ [])
          ∙ sym (following_push [] (take i kept) one)
          ∙ sym (ap (following []) more),
      after_push [] copies copy ∙ newest ∙ sym (after_push [] (take i kept) one) ∙ sym (ap (after []) more),
    )
