-- A tick lies on the same side of each end as the end that it reached last.
use Rattle.std.proofs.Common.{◌≡◌, ℕ, zero, suc, ◌<◌, ◌≤◌, ◌⊎◌, inl, inr, List, [], ◌∷◌, length, get_or, Bool, true, false, arith, ap, sym, ◌∙◌, refl, subst, Option, Some, None}
use Rattle.std.specs.Prelude.{◌&&◌, nat_le, nat_lt}
use Rattle.std.specs.List.{AllZip, Contains}
use Rattle.std.specs.List.Sorted.{IsNonDecreasing}
use Rattle.std.proofs.lemmas.Bool.Decides.{nat_tests}
use Rattle.std.proofs.lemmas.List.{get_or_default}
use Rattle.rv_access.specs.Words.{WindowWords, Words}
use Rattle.rv_access.specs.Windows.{end_tick, first_tick, is_open}
use Rattle.rv_table.specs.Rows.{IsRow, is_open_at, one}
use Rattle.rv_table.specs.Spans.{AreEnds, HasEnds, IsOpenRow, IsSpan}

-- where the span of so many ends starts
abbrev pub start : List ℕ → ℕ → ℕ
start ends count = get_or (0 ∷ ends) count 0

-- two ticks are on the same side of an end
abbrev Beside : ℕ → ℕ → ℕ → Type 0
Beside end tick from = ((end ≤ tick) × (end ≤ from)) ⊎ ((tick < end) × (from < end))

beside : (ends : List ℕ) (tick count k : ℕ) → IsNonDecreasing ends → IsSpan ends tick count → k < length ends → Beside (get_or ends k 0) tick (start ends count)
beside ends tick zero k rising span there = inr (span.behind k (omega arith) there, by_tick (span.behind k (omega arith) there))
  where
    by_tick : tick < get_or ends k 0 → 0 < get_or ends k 0
    by_tick more = omega (arith, more)
beside ends tick (suc m) k rising span there = by_side (nat_lt k (suc m)) refl
  where
    by_side : (t : Bool) → nat_lt k (suc m) ≡ t → Beside (get_or ends k 0) tick (get_or ends m 0)
    by_side true is =
        let less : k < suc m = grind (arith, nat_tests) in
        inl (span.before k less, rising k m 0 (omega (arith, less)) (omega (arith, span.few)))
    by_side false is =
        let past : suc m ≤ k = grind (arith, nat_tests) in
        let behind = span.behind k past there in
        let before = span.before m (omega arith) in
        inr (behind, omega (arith, behind, before))

contained : (ends : List ℕ) (end tick count : ℕ) → IsNonDecreasing ends → IsSpan ends tick count → Contains ends end → Beside end tick (start ends count)
contained ends end tick count rising span (k, there, is) =
    subst (λ (e : ℕ). Beside e tick (start ends count)) (get_or_default ends k 0 end there ∙ is) (beside ends tick count k rising span there)

same_le : (end tick from : ℕ) → Beside end tick from → nat_le end tick ≡ nat_le end from
same_le end tick from (inl h) =
    let one : nat_le end tick ≡ true = grind (arith, nat_tests, h.0) in
    let other : nat_le end from ≡ true = grind (arith, nat_tests, h.1) in
    one ∙ sym other
same_le end tick from (inr h) =
    let one : nat_le end tick ≡ false = grind (arith, nat_tests, h.0) in
    let other : nat_le end from ≡ false = grind (arith, nat_tests, h.1) in
    one ∙ sym other

same_lt : (end tick from : ℕ) → Beside end tick from → nat_lt tick end ≡ nat_lt from end
same_lt end tick from (inl h) =
    let one : nat_lt tick end ≡ false = grind (arith, nat_tests, h.0) in
    let other : nat_lt from end ≡ false = grind (arith, nat_tests, h.1) in
    one ∙ sym other
same_lt end tick from (inr h) =
    let one : nat_lt tick end ≡ true = grind (arith, nat_tests, h.0) in
    let other : nat_lt from end ≡ true = grind (arith, nat_tests, h.1) in
    one ∙ sym other

open_same : (ends : List ℕ) (window : Option WindowWords) (tick count : ℕ) → IsNonDecreasing ends → IsSpan ends tick count → HasEnds ends window → is_open window (start ends count) ≡ is_open window tick
open_same ends None tick count rising span has = refl
open_same ends (Some window) tick count rising span has =
    let first = same_le (first_tick window) tick (start ends count) (contained ends (first_tick window) tick count rising span has.0) in
    let last = same_lt (end_tick window) tick (start ends count) (contained ends (end_tick window) tick count rising span has.1) in
    sym (λ i. first i && last i)

-- the row of the span is that of the tick
pub row_at : (list : List Words) (ends row : List ℕ) (tick count : ℕ) → IsNonDecreasing ends → IsSpan ends tick count → AreEnds ends list → IsOpenRow list (start ends count) row → IsRow (is_open_at tick) list row
row_at list ends row tick count rising span named is = record {
  lines = λ d i within. is.lines d i within ∙ ap one (open_same ends (get_or list i d).window tick count rising span (named i d within));
  behind = is.behind;
}

-- the row of a place
pub zip_at : {A B : Type 0} (R : A → B → Type 0) (xs : List A) (ys : List B) (k : ℕ) (x : A) (y : B) → AllZip R xs ys → k < length xs → R (get_or xs k x) (get_or ys k y)
zip_at R [] [] k x y all less = absurd (omega (arith, less))
zip_at R [] (w ∷ ys) k x y all less = absurd all
zip_at R (v ∷ xs) [] k x y all less = absurd all
zip_at R (v ∷ xs) (w ∷ ys) zero x y all less = all.0
zip_at R (v ∷ xs) (w ∷ ys) (suc k) x y all less = zip_at R xs ys k x y all.1 (omega (arith, less))

pub zip_long : {A B : Type 0} (R : A → B → Type 0) (xs : List A) (ys : List B) → AllZip R xs ys → length ys ≡ length xs
zip_long R [] [] all = refl
zip_long R [] (w ∷ ys) all = absurd all
zip_long R (v ∷ xs) [] all = absurd all
zip_long R (v ∷ xs) (w ∷ ys) all = ap suc (zip_long R xs ys all.1)
