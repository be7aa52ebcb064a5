-- Numbers put in order stand in one order only.
use Rattle.std.proofs.Common.{◌≡◌, ◌≢◌, ◌<◌, ◌≤◌, ◌+◌, ℕ, suc, Bool, true, false, List, [], ◌∷◌, length, get_or, refl, sym, ap, ap₂, ◌∙◌, arith, if◌then◌else◌}
use Rattle.std.specs.Prelude.{◌==◌, nat_le}
use Rattle.std.specs.List.{sum_by}
use Rattle.std.specs.List.Sorted.{IsPermutation, IsSorted, IsNonDecreasing}
use Rattle.std.specs.Ordering.{nat_cmp}
use Rattle.std.proofs.lemmas.Bool.Decides.{nat_tests}
use Rattle.std.proofs.lemmas.List.Sorted.{IsNonDecreasingBy-from_sort, sum_by-IsPermutation}
use Rattle.std.proofs.lemmas.List.Sums.{sum_by-cons}
use Rattle.rv_spans.specs.Spans.{in_order, with_span}

-- 1 for this number
abbrev is_one : ℕ → ℕ → ℕ
is_one v x = if x == v then 1 else 0

-- how often a number stands in a list
times : ℕ → List ℕ → ℕ
times v [] = 0
times v (x ∷ xs) = is_one v x + times v xs

times_sum : (v : ℕ) (xs : List ℕ) → times v xs ≡ sum_by (is_one v) xs
unfolding times
times_sum v [] = refl
times_sum v (x ∷ xs) = ap (λ n. is_one v x + n) (times_sum v xs) ∙ sym (sum_by-cons (is_one v) x xs)

times_cons : (v x : ℕ) (xs : List ℕ) → times v (x ∷ xs) ≡ is_one v x + times v xs
unfolding times
times_cons v x xs = refl

times_none : (v : ℕ) → times v [] ≡ 0
unfolding times
times_none v = refl

same : (v : ℕ) → is_one v v ≡ 1
same v = grind (arith, nat_tests)

other : (v x : ℕ) → x ≢ v → is_one v x ≡ 0
other v x h = grind (arith, nat_tests)

-- a permutation keeps that
times_moved : (v : ℕ) (xs ys : List ℕ) → IsPermutation xs ys → times v ys ≡ times v xs
times_moved v xs ys moved = times_sum v ys ∙ sum_by-IsPermutation (is_one v) xs ys moved ∙ sym (times_sum v xs)

-- and so does the order
times_with : (v x : ℕ) (xs : List ℕ) → times v (with_span x xs) ≡ is_one v x + times v xs
times_with v x [] = times_cons v x []
times_with v x (y ∷ ys) = by_test (nat_le x y) (times_with v x ys)
  where
    by_test : (b : Bool) → times v (with_span x ys) ≡ is_one v x + times v ys → times v (if b then x ∷ y ∷ ys else y ∷ with_span x ys) ≡ is_one v x + times v (y ∷ ys)
    by_test true h = times_cons v x (y ∷ ys)
    by_test false h =
        let a = times_cons v y (with_span x ys) in
        let c = times_cons v y ys in
        omega arith

times_in_order : (v : ℕ) (xs : List ℕ) → times v (in_order xs) ≡ times v xs
times_in_order v [] = refl
times_in_order v (x ∷ xs) = times_with v x (in_order xs) ∙ ap (λ n. is_one v x + n) (times_in_order v xs) ∙ sym (times_cons v x xs)

-- none of a list is below
AllFrom : ℕ → List ℕ → Type 0
AllFrom v [] = Unit {0}
AllFrom v (x ∷ xs) = (v ≤ x) × AllFrom v xs

-- each is below none behind it
Rises : List ℕ → Type 0
Rises [] = Unit {0}
Rises (x ∷ xs) = AllFrom x xs × Rises xs

from_least : (v w : ℕ) (xs : List ℕ) → v ≤ w → AllFrom w xs → AllFrom v xs
unfolding AllFrom
from_least v w [] le all = tt
from_least v w (x ∷ xs) le all = (omega (arith, all.0), from_least v w xs le all.1)

-- what is below all of a list doesn't stand in it
absent : (v w : ℕ) (xs : List ℕ) → v < w → AllFrom w xs → times v xs ≡ 0
unfolding AllFrom
absent v w [] lt all = times_none v
absent v w (x ∷ xs) lt all =
    let le : w ≤ x = all.0 in
    let a = times_cons v x xs in
    let b = absent v w xs lt all.1 in
    let ne : x ≢ v = λ e. absurd (omega arith) in
    let c = other v x ne in
    omega arith

-- the first of what rises isn't above any number that stands in it
least_first : (v x : ℕ) (xs : List ℕ) → Rises (x ∷ xs) → 0 < times v (x ∷ xs) → x ≤ v
unfolding Rises
least_first v x xs rises stands = by_test (nat_le x v) refl
  where
    by_test : (b : Bool) → nat_le x v ≡ b → x ≤ v
    by_test true e = grind (arith, nat_tests)
    by_test false e =
        let lt : v < x = grind (arith, nat_tests) in
        let ne : x ≢ v = λ e. absurd (omega arith) in
        let a = absent v x xs lt rises.0 in
        let b = times_cons v x xs in
        let c = other v x ne in
        absurd (omega arith)

stands_first : (x : ℕ) (xs : List ℕ) → 0 < times x (x ∷ xs)
stands_first x xs =
    let a = times_cons x x xs in
    let b = same x in
    omega arith

-- two lists that rise and have each number equally often are one
unique : (xs ys : List ℕ) → Rises xs → Rises ys → ((v : ℕ) → times v xs ≡ times v ys) → xs ≡ ys
unfolding Rises
unique [] [] up_x up_y alike = refl
unique [] (y ∷ ys) up_x up_y alike =
    let a = alike y in
    let b = times_none y in
    let c = stands_first y ys in
    absurd (omega arith)
unique (x ∷ xs) [] up_x up_y alike =
    let a = alike x in
    let b = times_none x in
    let c = stands_first x xs in
    absurd (omega arith)
unique (x ∷ xs) (y ∷ ys) up_x up_y alike =
    let a = alike x in
    let b = stands_first x xs in
    let at_y : y ≤ x = least_first x y ys up_y (omega arith) in
    let c = alike y in
    let d = stands_first y ys in
    let at_x : x ≤ y = least_first y x xs up_x (omega arith) in
    let e : x ≡ y = omega arith in
    ap₂ (λ (z : ℕ) (zs : List ℕ). z ∷ zs) e (unique xs ys up_x.1 up_y.1 (rest e))
  where
    rest : x ≡ y → (v : ℕ) → times v xs ≡ times v ys
    rest e v =
        let a = alike v in
        let b = times_cons v x xs in
        let c = times_cons v y ys in
        let d : is_one v x ≡ is_one v y = ap (is_one v) e in
        omega arith

-- what was put in order rises

from_with : (w x : ℕ) (ys : List ℕ) → w ≤ x → AllFrom w ys → AllFrom w (with_span x ys)
unfolding AllFrom
from_with w x [] le all = (le, tt)
from_with w x (y ∷ ys) le all = by_test (nat_le x y) (from_with w x ys le all.1)
  where
    by_test : (b : Bool) → AllFrom w (with_span x ys) → AllFrom w (if b then x ∷ y ∷ ys else y ∷ with_span x ys)
    by_test true h = (le, all)
    by_test false h = (all.0, h)

rises_with : (x : ℕ) (ys : List ℕ) → Rises ys → Rises (with_span x ys)
unfolding Rises AllFrom
rises_with x [] up = (tt, tt)
rises_with x (y ∷ ys) up = by_test (nat_le x y) refl (rises_with x ys up.1)
  where
    by_test : (b : Bool) → nat_le x y ≡ b → Rises (with_span x ys) → Rises (if b then x ∷ y ∷ ys else y ∷ with_span x ys)
    by_test true e h =
        let le : x ≤ y = grind (arith, nat_tests) in
        ((le, from_least x y ys le up.0), up)
    by_test false e h =
        let le : y ≤ x = grind (arith, nat_tests) in
        (from_with y x ys le up.0, h)

rises_in_order : (xs : List ℕ) → Rises (in_order xs)
unfolding Rises
rises_in_order [] = tt
rises_in_order (x ∷ xs) = rises_with x (in_order xs) (rises_in_order xs)

-- what a sort left rises

all_of : (w : ℕ) (xs : List ℕ) → ((k d : ℕ) → k < length xs → w ≤ get_or xs k d) → AllFrom w xs
unfolding AllFrom
all_of w [] h = tt
all_of w (x ∷ xs) h = (h 0 0 (omega arith), all_of w xs (λ k d lt. h (suc k) d (omega arith)))

rises_of : (xs : List ℕ) → IsNonDecreasing xs → Rises xs
unfolding Rises
rises_of [] h = tt
rises_of (x ∷ xs) h = (
  all_of x xs (λ k d lt. h 0 (suc k) d (omega arith) (omega arith)),
  rises_of xs (λ i j d le lt. h (suc i) (suc j) d (omega arith) (omega arith)),
)

pub order_is : (xs ys : List ℕ) → IsPermutation xs ys → IsSorted nat_cmp ys → ys ≡ in_order xs
order_is xs ys moved up =
    unique ys (in_order xs) (rises_of ys (IsNonDecreasingBy-from_sort (λ (x : ℕ). x) ys up)) (rises_in_order xs) (λ v. times_moved v xs ys moved ∙ sym (times_in_order v xs))
