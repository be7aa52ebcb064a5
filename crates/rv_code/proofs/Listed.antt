-- Lists of bodies that objects share: what stays where one more is added, and what another one in the place of one comes to.
use Rattle.std.proofs.Common.{◌≡◌, ℕ, zero, suc, ◌+◌, ◌<◌, Bool, true, false, List, [], ◌∷◌, ◌++◌, length, map, replicate, refl, ap, ◌∙◌, arith}
use Rattle.std.specs.Prelude.{◌&&◌, nat_lt}
use Rattle.std.specs.List.{list_all}
use Rattle.std.proofs.Math.ListN.{set}
use Rattle.std.proofs.lemmas.Bool.Decides.{nat_tests}
use Rattle.std.proofs.lemmas.List.{length-append, map-set}
use Rattle.rv_code.specs.declared.body.ObjectBodies.{ObjectBodies}
use Rattle.rv_code.specs.BodyView.{list_at, object_view}

first_of_both : (b c : Bool) → (b && c) ≡ true → b ≡ true
first_of_both true c e = refl
first_of_both false c e = e

second_of_both : (b c : Bool) → (b && c) ≡ true → c ≡ true
second_of_both true c e = e
second_of_both false c e = absurd (cc e)

both_hold : (b c : Bool) → b ≡ true → c ≡ true → (b && c) ≡ true
both_hold true c e f = f
both_hold false c e f = absurd (cc e)

below_next : (n m : ℕ) → nat_lt n m ≡ true → nat_lt n (m + 1) ≡ true
below_next n m e = grind (arith, nat_tests, e)

below : (n m : ℕ) → nat_lt n m ≡ true → n < m
below n m e = grind (arith, nat_tests, e)

is_below : (n m : ℕ) → n < m → nat_lt n m ≡ true
is_below n m e = grind (arith, nat_tests, e)

-- one list more
within_next : (m : ℕ) (objects : List ℕ) → list_all (λ list. nat_lt list m) objects ≡ true → list_all (λ list. nat_lt list (m + 1)) objects ≡ true
within_next m [] e = refl
within_next m (n ∷ objects) e =
    both_hold (nat_lt n (m + 1)) (list_all (λ list. nat_lt list (m + 1)) objects)
    (below_next n m (first_of_both (nat_lt n m) (list_all (λ list. nat_lt list m) objects) e))
    (within_next m objects (second_of_both (nat_lt n m) (list_all (λ list. nat_lt list m) objects) e))

pub within_more : (lists more : List ObjectBodies) (o : ObjectBodies) (objects : List ℕ) → more ≡ lists ++ o ∷ []
    → list_all (λ list. nat_lt list (length lists)) objects ≡ true → list_all (λ list. nat_lt list (length more)) objects ≡ true
within_more lists more o objects is e =
    let count : length more ≡ length lists + 1 = ap length is ∙ length-append lists (o ∷ []) in
    ap (λ m. list_all (λ list. nat_lt list m) objects) count ∙ within_next (length lists) objects e

-- an object has another list
pub within_given : (m : ℕ) (objects : List ℕ) (object list : ℕ) → list < m
    → list_all (λ one. nat_lt one m) objects ≡ true → list_all (λ one. nat_lt one m) (set objects object list) ≡ true
within_given m [] object list lt e = refl
within_given m (n ∷ objects) zero list lt e =
    both_hold (nat_lt list m) (list_all (λ one. nat_lt one m) objects) (is_below list m lt)
    (second_of_both (nat_lt n m) (list_all (λ one. nat_lt one m) objects) e)
within_given m (n ∷ objects) (suc object) list lt e =
    both_hold (nat_lt n m) (list_all (λ one. nat_lt one m) (set objects object list))
    (first_of_both (nat_lt n m) (list_all (λ one. nat_lt one m) objects) e)
    (within_given m objects object list lt (second_of_both (nat_lt n m) (list_all (λ one. nat_lt one m) objects) e))

-- what each has stays, where one list more is added
list_stays : (lists : List ObjectBodies) (o : ObjectBodies) (n : ℕ) → n < length lists → list_at (lists ++ o ∷ []) n ≡ list_at lists n
list_stays [] o n lt = absurd (omega (arith, lt))
list_stays (l ∷ lists) o zero lt = refl
list_stays (l ∷ lists) o (suc n) lt = list_stays lists o n (omega (arith, lt))

lists_stay : (lists : List ObjectBodies) (o : ObjectBodies) (objects : List ℕ) → list_all (λ list. nat_lt list (length lists)) objects ≡ true
    → map (list_at (lists ++ o ∷ [])) objects ≡ map (list_at lists) objects
lists_stay lists o [] e = refl
lists_stay lists o (n ∷ objects) e =
    let here = list_stays lists o n (below n (length lists) (first_of_both (nat_lt n (length lists)) (list_all (λ list. nat_lt list (length lists)) objects) e)) in
    let others = lists_stay lists o objects (second_of_both (nat_lt n (length lists)) (list_all (λ list. nat_lt list (length lists)) objects) e) in
    (λ i. here i ∷ others i)

pub views_stay : (lists more : List ObjectBodies) (o : ObjectBodies) (objects : List ℕ) → more ≡ lists ++ o ∷ []
    → list_all (λ list. nat_lt list (length lists)) objects ≡ true
    → map (list_at more) objects ≡ map (list_at lists) objects
views_stay lists more o objects is e = ap (λ (all : List ObjectBodies). map (list_at all) objects) is ∙ lists_stay lists o objects e

-- the list that is added is the last
pub list_added : (lists more : List ObjectBodies) (o : ObjectBodies) → more ≡ lists ++ o ∷ [] → list_at more (length lists) ≡ object_view o
list_added lists more o is = ap (λ (all : List ObjectBodies). list_at all (length lists)) is ∙ last lists where
  last : (ls : List ObjectBodies) → list_at (ls ++ o ∷ []) (length ls) ≡ object_view o
  last [] = refl
  last (l ∷ ls) = last ls

pub views_given : (lists : List ObjectBodies) (objects : List ℕ) (object list : ℕ)
    → map (list_at lists) (set objects object list) ≡ set (map (list_at lists) objects) object (list_at lists list)
views_given lists objects object list = map-set (list_at lists) objects object list

-- at first each object has the one list, which is empty
pub within_first : (n : ℕ) (lists : List ObjectBodies) → length lists ≡ 1 → list_all (λ list. nat_lt list (length lists)) (replicate n 0) ≡ true
within_first n lists one = ap (λ m. list_all (λ list. nat_lt list m) (replicate n 0)) one ∙ zeros n where
  zeros : (k : ℕ) → list_all (λ list. nat_lt list 1) (replicate k 0) ≡ true
  zeros zero = refl
  zeros (suc k) = zeros k

pub views_first : (n : ℕ) (lists : List ObjectBodies) → map object_view lists ≡ [] ∷ [] → map (list_at lists) (replicate n 0) ≡ replicate n []
views_first n [] none = absurd (cc none)
views_first zero (o ∷ lists) one = refl
views_first (suc n) (o ∷ lists) one =
    let here : object_view o ≡ [] = cc one in
    let others = views_first n (o ∷ lists) one in
    (λ i. here i ∷ others i)
