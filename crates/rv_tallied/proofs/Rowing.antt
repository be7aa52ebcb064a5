-- Words one by one.
use Rattle.std.proofs.Common.{◌≡◌, ◌+◌, ◌<◌, ℕ, zero, suc, Bool, true, false, ◌||◌, List, [], ◌∷◌, ◌++◌, length, get_or, take, map, refl, sym, ap, ◌∙◌, arith, append_assoc, append-nil}
use Rattle.std.specs.List.{list_any}
use Rattle.std.proofs.lemmas.List.{map_more}
use Rattle.rv_tallied.specs.Tallies.{row_text, rows_text}
use Rattle.rv_tallied.specs.declared.tallies.Tally.{Tally}

or_none : (b : Bool) → (b || false) ≡ b
or_none true = refl
or_none false = refl

or_assoc : (a b c : Bool) → (a || (b || c)) ≡ ((a || b) || c)
or_assoc true b c = refl
or_assoc false b c = refl

any_append : (p : List ℕ → Bool) (xs : List (List ℕ)) (x : List ℕ) → list_any p (xs ++ x ∷ []) ≡ (list_any p xs || p x)
any_append p [] x = or_none (p x)
any_append p (y ∷ ys) x = ap (λ (b : Bool). p y || b) (any_append p ys x) ∙ or_assoc (p y) (list_any p ys) (p x)

or_right : (a b : Bool) → b ≡ true → (a || b) ≡ true
or_right true b e = refl
or_right false b e = e

or_left : (a b : Bool) → a ≡ true → (a || b) ≡ true
or_left true b e = refl
or_left false b e = absurd cc

neither : (a b : Bool) → a ≡ false → b ≡ false → (a || b) ≡ false
neither true b e f = absurd cc
neither false b e f = f

pub any_at : {X : Type 0} (g : X → List ℕ) (p : List ℕ → Bool) (xs : List X) (i : ℕ) (d : X) → i < length xs → p (g (get_or xs i d)) ≡ true → list_any p (map g xs) ≡ true
any_at g p [] i d lt e = absurd (omega arith)
any_at g p (x ∷ xs) zero d lt e = or_left (p (g x)) (list_any p (map g xs)) e
any_at g p (x ∷ xs) (suc i) d lt e = or_right (p (g x)) (list_any p (map g xs)) (any_at g p xs i d (omega arith) e)

pub none_more : {X : Type 0} (g : X → List ℕ) (p : List ℕ → Bool) (xs : List X) (i : ℕ) (d : X) → i < length xs → list_any p (map g (take i xs)) ≡ false → p (g (get_or xs i d)) ≡ false → list_any p (map g (take (i + 1) xs)) ≡ false
none_more g p xs i d lt none e =
    ap (λ (ys : List (List ℕ)). list_any p ys) (map_more g xs i d lt) ∙ any_append p (map g (take i xs)) (g (get_or xs i d))
    ∙ neither (list_any p (map g (take i xs))) (p (g (get_or xs i d))) none e

rows_append : (how : List ℕ) (f : List ℕ → Tally) (xs : List (List ℕ)) (x : List ℕ) → rows_text how f (xs ++ x ∷ []) ≡ rows_text how f xs ++ row_text how x (f x)
rows_append how f [] x = append-nil (row_text how x (f x))
rows_append how f (y ∷ ys) x =
    ap (λ (t : List ℕ). row_text how y (f y) ++ t) (rows_append how f ys x) ∙ sym (append_assoc (row_text how y (f y)) (rows_text how f ys) (row_text how x (f x)))

-- the rows so far with one more
pub row_more : {X : Type 0} (g : X → List ℕ) (how : List ℕ) (f : List ℕ → Tally) (xs : List X) (i : ℕ) (x : X) (words : List ℕ) (tally : Tally) (text middle new : List ℕ) → i < length xs → x ≡ get_or xs i x → words ≡ g x → tally ≡ f words →
    middle ≡ text ++ rows_text how f (map g (take i xs)) → new ≡ middle ++ row_text how words tally → new ≡ text ++ rows_text how f (map g (take (i + 1) xs))
row_more g how f xs i x words tally text middle new lt x_is words_is tally_is middle_is new_is =
    let at : words ≡ g (get_or xs i x) = words_is ∙ ap g x_is in
    new_is ∙ ap (λ (t : List ℕ). t ++ row_text how words tally) middle_is
    ∙ append_assoc text (rows_text how f (map g (take i xs))) (row_text how words tally)
    ∙ ap (λ (t : Tally). text ++ (rows_text how f (map g (take i xs)) ++ row_text how words t)) tally_is
    ∙ ap (λ (w : List ℕ). text ++ (rows_text how f (map g (take i xs)) ++ row_text how w (f w))) at
    ∙ ap (λ (t : List ℕ). text ++ t) (sym (rows_append how f (map g (take i xs)) (g (get_or xs i x))))
    ∙ ap (λ (ys : List (List ℕ)). text ++ rows_text how f ys) (sym (map_more g xs i x lt))
