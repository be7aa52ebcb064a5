-- Items are changed one by one, from one relation to another.
use Rattle.std.proofs.Common.{◌≡◌, ◌≢◌, ℕ, zero, suc, ◌+◌, ◌<◌, ◌≤◌, List, [], ◌∷◌, length, get_or, set, Bool, true, false, Option, Some, None, arith, ap, sym, ◌∙◌, refl, subst}
use Rattle.std.specs.Prelude.{◌==◌, slice_get}
use Rattle.std.specs.List.{AllZip}
use Rattle.std.proofs.lemmas.Bool.Decides.{nat_tests}
use Rattle.std.proofs.lemmas.Grind.{get_or-set_at}
use Rattle.std.proofs.lemmas.List.{get_or-set_other, length-set}
use Rattle.rv_table.proofs.Reached.{zip_at, zip_long}

got : {A : Type 0} (zs : List A) (n : ℕ) (v z : A) → slice_get zs n ≡ Some z → get_or zs n v ≡ z
got [] n v z e = absurd (cc)
got (u ∷ zs) zero v z e = cc
got (u ∷ zs) (suc n) v z e = got zs n v z e

past : {A : Type 0} (zs : List A) (n : ℕ) → n < length zs → slice_get zs n ≡ None → ⊥
past [] n some e = absurd (omega (arith, some))
past (u ∷ zs) zero some e = absurd (cc)
past (u ∷ zs) (suc n) some e = past zs n (omega (arith, some)) e

zip_from : {A B : Type 0} (S : A → B → Type 0) (xs : List A) (ys : List B) → length ys ≡ length xs → ((k : ℕ) (x : A) (y : B) → k < length xs → S (get_or xs k x) (get_or ys k y)) → AllZip S xs ys
zip_from S [] [] long each = tt {0}
zip_from S [] (y ∷ ys) long each = absurd (omega (arith, long))
zip_from S (x ∷ xs) [] long each = absurd (omega (arith, long))
zip_from S (x ∷ xs) (y ∷ ys) long each = (each 0 x y (omega arith), zip_from S xs ys (omega (arith, long)) (λ k v w there. each (suc k) v w (omega (arith, there))))

-- S holds of the first items, and R of the others
pub record Half {A B : Type 0} (R S : A → B → Type 0) (xs : List A) (ys : List B) (i : ℕ) : Type 0 where
  pub long : length ys ≡ length xs
  pub done : (k : ℕ) (x : A) (y : B) → k < i → k < length xs → S (get_or xs k x) (get_or ys k y)
  pub left : (k : ℕ) (x : A) (y : B) → i ≤ k → k < length xs → R (get_or xs k x) (get_or ys k y)

pub half_none : {A B : Type 0} (R S : A → B → Type 0) (xs : List A) (ys : List B) → AllZip R xs ys → Half R S xs ys 0
half_none R S xs ys all = record {
  long = zip_long R xs ys all;
  done = λ k x y less there. absurd (omega (arith, less));
  left = λ k x y past there. zip_at R xs ys k x y all there;
}

pub half_more : {A B : Type 0} (R S : A → B → Type 0) (xs : List A) (ys : List B) (i : ℕ) (x : A) (y : B) → Half R S xs ys i → i < length ys → slice_get xs i ≡ Some x → S x y → Half R S xs (set ys i y) (i + 1)
half_more {A = A} {B = B} R S xs ys i x y half less here is = record {
  long = length-set ys i y ∙ half.long;
  done = λ k v w within there. by_place k v w within there (k == i) refl;
  left = λ k v w past there.
      let other : k ≢ i = λ e. omega (arith, past, e) in
      subst (R (get_or xs k v)) (sym (get_or-set_other ys i k y w other)) (half.left k v w (omega (arith, past)) there);
}
  where
    by_place : (k : ℕ) (v : A) (w : B) → k < i + 1 → k < length xs → (t : Bool) → (k == i) ≡ t → S (get_or xs k v) (get_or (set ys i y) k w)
    by_place k v w within there true e =
        let same : k ≡ i = grind (arith, nat_tests) in
        let mine : get_or xs k v ≡ x = ap (λ n. get_or xs n v) same ∙ got xs i v x here in
        subst (λ z. S z (get_or (set ys i y) k w)) (sym mine) (subst (S x) (sym (get_or-set_at ys i k y w same less)) is)
    by_place k v w within there false e =
        let other : k ≢ i = grind (arith, nat_tests) in
        subst (S (get_or xs k v)) (sym (get_or-set_other ys i k y w other)) (half.done k v w (omega (arith, within, other)) there)

pub half_at : {A B : Type 0} (R S : A → B → Type 0) (xs : List A) (ys : List B) (i : ℕ) (x : A) (y : B) → Half R S xs ys i → i < length ys → slice_get xs i ≡ Some x → R x (get_or ys i y)
half_at R S xs ys i x y half less here =
    subst (λ z. R z (get_or ys i y)) (got xs i x x here) (half.left i x y (omega arith) (omega (arith, half.long, less)))

-- none is beyond the last
pub half_past : {A B : Type 0} (R S : A → B → Type 0) (xs : List A) (ys : List B) (i : ℕ) → Half R S xs ys i → i < length ys → slice_get xs i ≡ None → ⊥
half_past R S xs ys i half less none = past xs i (omega (arith, half.long, less)) none

pub half_all : {A B : Type 0} (R S : A → B → Type 0) (xs : List A) (ys : List B) (i : ℕ) → Half R S xs ys i → length ys ≤ i → AllZip S xs ys
half_all R S xs ys i half all = zip_from S xs ys half.long (λ k x y there. half.done k x y (omega (arith, half.long, all, there)) there)

-- one item more, where its change takes R to S
pub half_step : {A B : Type 0} (R S : A → B → Type 0) (xs : List A) (ys : List B) (i : ℕ) (y : B) → Half R S xs ys i → i < length ys →
    ((x : A) → slice_get xs i ≡ Some x → ((d : B) → R x (get_or ys i d)) → S x y) → Half R S xs (set ys i y) (i + 1)
half_step {A = A} {B = B} R S xs ys i y half less changes = by_item (slice_get xs i) refl
  where
    by_item : (o : Option A) → slice_get xs i ≡ o → Half R S xs (set ys i y) (i + 1)
    by_item None is = absurd (half_past R S xs ys i half less is)
    by_item (Some x) is = half_more R S xs ys i x y half less is (changes x is (λ (d : B). half_at R S xs ys i x d half less is))
