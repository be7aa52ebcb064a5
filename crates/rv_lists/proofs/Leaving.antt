-- Lists of which the first ones were given up: all are still told, and the last one is there.
use Rattle.std.proofs.Common.{◌≡◌, ℕ, zero, suc, ◌+◌, ◌-◌, ◌<◌, ◌≤◌, ◌∙◌, arith, ap, sym, refl, subst, List, [], ◌∷◌, ◌++◌, length, take, drop, get_or, Some, None, Option, ⊎_elim, inl, inr}
use Rattle.std.specs.Prelude.{◌⊎◌, slice_get, unwrap_or}
use Rattle.std.proofs.lemmas.List.{append_assoc, append-nil, drop_more, length-append, length-drop, length-take-le}
use Rattle.rv_access.specs.Words.{Words}
use Rattle.rv_lists.specs.Gone.{gone_lists}
use Rattle.rv_lists.specs.Kept.{HasLast, StandsAlone, after, following, last_of, lists_of, next}
use Rattle.rv_lists.specs.declared.kept.Kept.{Kept}
use Rattle.rv_lists.proofs.Following.{length_following}

-- One more time that some are let go

pub gone_more : (series : List (List (List Words))) (counts : List ℕ) (lists : List (List Words)) (count : ℕ) → length series ≡ length counts →
    gone_lists (series ++ lists ∷ []) (counts ++ count ∷ []) ≡ gone_lists series counts ++ take count lists
gone_more [] [] lists count same = append-nil (take count lists)
gone_more [] (n ∷ counts) lists count same = absurd (omega (arith, same))
gone_more (x ∷ series) [] lists count same = absurd (omega (arith, same))
gone_more (x ∷ series) (n ∷ counts) lists count same =
    let less : length series ≡ length counts = omega (arith, same) in
    ap (λ (more : List (List Words)). take n x ++ more) (gone_more series counts lists count less)
    ∙ sym (append_assoc (take n x) (gone_lists series counts) (take count lists))

pub paired_more : (series : List (List (List Words))) (counts : List ℕ) (lists : List (List Words)) (count : ℕ) → length series ≡ length counts →
    length (series ++ lists ∷ []) ≡ length (counts ++ count ∷ [])
paired_more series counts lists count same =
    length-append series (lists ∷ []) ∙ ap (λ (n : ℕ). n + 1) same ∙ sym (length-append counts (count ∷ []))

pub none_more : (gone lists : List (List Words)) → gone ++ take 0 lists ≡ gone
none_more gone lists = append-nil gone

-- What is kept from a place on

split_lists : (before : List Words) (kept : List Kept) (n : ℕ) →
    following before kept ≡ take n (following before kept) ++ following (after before (take n kept)) (drop n kept)
split_lists before [] zero = refl
split_lists before [] (suc n) = refl
split_lists before (k ∷ kept) zero = refl
split_lists before (k ∷ kept) (suc n) = ap (λ (more : List (List Words)). next before k ∷ more) (split_lists (next before k) kept n)

split_last : (before : List Words) (kept : List Kept) (n : ℕ) → after before kept ≡ after (after before (take n kept)) (drop n kept)
split_last before [] zero = refl
split_last before [] (suc n) = refl
split_last before (k ∷ kept) zero = refl
split_last before (k ∷ kept) (suc n) = split_last (next before k) kept n

-- one that is kept whole needs none before it
pub alone_from : (kept : List Kept) (n : ℕ) (k : Kept) → n < length kept → k ≡ get_or kept n k →
    ((before : List Words) → next before k ≡ k.lines.items) → StandsAlone (drop n kept)
alone_from kept n k there is whole =
    let more : drop n kept ≡ k ∷ drop (n + 1) kept = drop_more kept n k there ∙ ap (λ (x : Kept). x ∷ drop (n + 1) kept) (sym is) in
    subst StandsAlone (sym more) (λ before.
    let same : next before k ≡ next [] k = whole before ∙ sym (whole []) in (
      (λ i. same i ∷ following (same i) (drop (n + 1) kept)),
      ap (λ (one : List Words). after one (drop (n + 1) kept)) same,
    ))

pub all_there : (gone : List (List Words)) (kept : List Kept) (n : ℕ) → StandsAlone (drop n kept) →
    (gone ++ take n (lists_of kept)) ++ lists_of (drop n kept) ≡ gone ++ lists_of kept
all_there gone kept n alone =
    append_assoc gone (take n (lists_of kept)) (lists_of (drop n kept))
    ∙ ap (λ (more : List (List Words)). gone ++ more)
    (ap (λ (more : List (List Words)). take n (lists_of kept) ++ more) (sym (alone (after [] (take n kept))).0) ∙ sym (split_lists [] kept n))

pub last_stays : (kept : List Kept) (n : ℕ) → StandsAlone (drop n kept) → after [] kept ≡ after [] (drop n kept)
last_stays kept n alone = split_last [] kept n ∙ (alone (after [] (take n kept))).1

pub counted : (gone : List (List Words)) (kept : List Kept) (n : ℕ) → n ≤ length kept → length (gone ++ take n (lists_of kept)) ≡ length gone + n
counted gone kept n there =
    let long : length (lists_of kept) ≡ length kept = length_following [] kept in
    length-append gone (take n (lists_of kept)) ∙ ap (λ (m : ℕ). length gone + m) (length-take-le n (lists_of kept) (omega (arith, long, there)))

pub some_left : (kept : List Kept) (n : ℕ) → n < length kept → 0 < length (lists_of (drop n kept))
some_left kept n there =
    let long : length (lists_of (drop n kept)) ≡ length (drop n kept) = length_following [] (drop n kept) in
    let left : length (drop n kept) ≡ length kept - n = length-drop n kept in
    omega (arith, long, left, there)

-- Lists behind those that were given up

pub behind_gone : (gone kept : List (List Words)) (i j : ℕ) → i ≡ length gone + j → slice_get (gone ++ kept) i ≡ slice_get kept j
behind_gone [] kept i j is = ap (slice_get kept) (omega (arith, is))
behind_gone (x ∷ gone) kept zero j is = absurd (omega (arith, is))
behind_gone (x ∷ gone) kept (suc i) j is = behind_gone gone kept i j (omega (arith, is))

pub last_behind : (gone kept : List (List Words)) → HasLast gone kept →
    slice_get kept (length kept - 1) ≡ slice_get (gone ++ kept) (length (gone ++ kept) - 1)
last_behind gone kept has = ⊎_elim
    (λ none. ap (λ (front : List (List Words)). slice_get (front ++ kept) (length (front ++ kept) - 1)) (sym none))
    (λ some.
    let long : length (gone ++ kept) ≡ length gone + length kept = length-append gone kept in
    sym (behind_gone gone kept (length (gone ++ kept) - 1) (length kept - 1) (omega (arith, long, some))))
    has

pub last_same : (gone kept : List (List Words)) → HasLast gone kept → last_of (gone ++ kept) ≡ last_of kept
last_same gone kept has = ap (λ (o : Option (List Words)). unwrap_or o []) (sym (last_behind gone kept has))

pub one_more : (gone kept : List (List Words)) (list : List Words) → gone ++ (kept ++ list ∷ []) ≡ (gone ++ kept) ++ list ∷ []
one_more gone kept list = sym (append_assoc gone kept (list ∷ []))

pub has_more : (gone kept : List (List Words)) (list : List Words) → HasLast gone (kept ++ list ∷ [])
has_more gone kept list =
    let long : length (kept ++ list ∷ []) ≡ length kept + 1 = length-append kept (list ∷ []) in
    inr (omega (arith, long))

pub has_still : (gone gone' kept kept' : List (List Words)) → HasLast gone kept → (0 < length kept → 0 < length kept') →
    (length kept ≡ 0 → gone' ≡ gone) → HasLast gone' kept'
has_still gone gone' [] kept' has some none = ⊎_elim (λ is. inl (none refl ∙ is)) (λ is. absurd (omega (arith, is))) has
has_still gone gone' (list ∷ kept) kept' has some none = inr (some (omega arith))
