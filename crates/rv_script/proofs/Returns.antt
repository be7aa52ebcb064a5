-- A text that is cut at its first line feed.
use Rattle.std.proofs.Common.{◌≡◌, ℕ, ◌<◌, List, [], ◌∷◌, ◌++◌, length, refl, sym, ap, ◌∙◌, arith, eqb, eqb-true, append_assoc}
use Rattle.std.specs.Prelude.{Bool, true, false, cond, if◌then◌else◌, ◌||◌, suc, ◌-◌, ◌==◌, take}
use Rattle.std.specs.List.{slice_index, slice_split, onto_first, list_any, position_or_len, before_first, after_first}
use Rattle.std.specs.Str.Lines.{strip_carriage_return}
use Rattle.std.proofs.lemmas.List.Splits.{slice_split_first, length-slice_split}
use Rattle.rv_text.proofs.FirstParts.{split_whole}
use Rattle.rv_script.specs.UnitTexts.{joined, without_returns}

joined_more : (x : List ℕ) (parts : List (List ℕ)) → 0 < length parts → joined (x ∷ parts) ≡ strip_carriage_return x ++ 10 ∷ joined parts
joined_more x [] h = absurd (omega arith)
joined_more x (y ∷ parts) h = refl

pub returns_cut : (bs : List ℕ) → position_or_len (λ b. eqb b 10) bs < length bs → without_returns bs ≡ strip_carriage_return (before_first (λ b. eqb b 10) bs) ++ 10 ∷ without_returns (after_first (λ b. eqb b 10) bs)
returns_cut bs h =
    let rest = slice_split (λ b. eqb b 10) (after_first (λ b. eqb b 10) bs) in
    let some : 0 < length rest = omega (arith, length-slice_split (λ b. eqb b 10) (after_first (λ b. eqb b 10) bs)) in
    ap joined (slice_split_first (λ b. eqb b 10) bs 0 h) ∙ joined_more _ rest some

pub returns_last : (bs : List ℕ) → position_or_len (λ b. eqb b 10) bs ≡ length bs → without_returns bs ≡ bs
returns_last bs h = ap joined (split_whole (λ b. eqb b 10) bs h)

-- one more line
pub kept_more : (kept line stripped after rest whole : List ℕ) → kept ++ without_returns rest ≡ whole → position_or_len (λ b. eqb b 10) rest < length rest → line ≡ before_first (λ b. eqb b 10) rest → after ≡ after_first (λ b. eqb b 10) rest
    → stripped ≡ strip_carriage_return line → ((kept ++ stripped) ++ 10 ∷ []) ++ without_returns after ≡ whole
kept_more kept line stripped after rest whole so h l a s =
    append_assoc (kept ++ stripped) (10 ∷ []) (without_returns after) ∙ append_assoc kept stripped (10 ∷ without_returns after)
    ∙ ap (λ (t : List ℕ). kept ++ t) (ap (λ (x : List ℕ). x ++ 10 ∷ without_returns after) (s ∙ ap strip_carriage_return l)
    ∙ ap (λ (t : List ℕ). strip_carriage_return (before_first (λ b. eqb b 10) rest) ++ 10 ∷ without_returns t) a ∙ sym (returns_cut rest h)) ∙ so

-- A text without carriage returns

onto_if : (b : Bool) (x : ℕ) (l m : List ℕ) → (if b then x ∷ l else x ∷ m) ≡ x ∷ (if b then l else m)
onto_if true x l m = refl
onto_if false x l m = refl

-- a byte before a part that isn't empty is none at its end
strip_onto : (x : ℕ) (part : List ℕ) → eqb x 13 ≡ false → strip_carriage_return (x ∷ part) ≡ x ∷ strip_carriage_return part
strip_onto x [] h = ap (λ (b : Bool). if b then [] else x ∷ []) h
strip_onto x (y ∷ ys) h =
    let last = length (y ∷ ys) - 1 in
    let later : length (x ∷ y ∷ ys) - 1 ≡ suc last = omega arith in
    ap (λ (n : ℕ). if slice_index (x ∷ y ∷ ys) n == 13 then take n (x ∷ y ∷ ys) else x ∷ y ∷ ys) later
    ∙ onto_if (slice_index (y ∷ ys) last == 13) x (take last (y ∷ ys)) (y ∷ ys)

onto_joined : (x : ℕ) (parts : List (List ℕ)) → eqb x 13 ≡ false → 0 < length parts → joined (onto_first x parts) ≡ x ∷ joined parts
onto_joined x [] h some = absurd (omega arith)
onto_joined x (part ∷ []) h some = refl
onto_joined x (part ∷ next ∷ parts) h some = ap (λ (l : List ℕ). l ++ 10 ∷ joined (next ∷ parts)) (strip_onto x part h)

neither : (a b : Bool) → (a || b) ≡ false → (a ≡ false) × (b ≡ false)
neither false b h = (refl, h)
neither true b h = absurd (cc h)

-- it stays as it is
pub none_stripped : (bs : List ℕ) → list_any (λ b. eqb b 13) bs ≡ false → without_returns bs ≡ bs
none_stripped [] h = refl
none_stripped (x ∷ xs) h =
    let none = neither (eqb x 13) (list_any (λ b. eqb b 13) xs) h in
    let parts = slice_split (λ b. eqb b 10) xs in
    let some : 0 < length parts = omega (arith, length-slice_split (λ b. eqb b 10) xs) in
    let behind : joined parts ≡ xs = none_stripped xs none.1 in
    by_feed (eqb x 10) refl parts some behind none.0
  where
    by_feed : (b : Bool) → eqb x 10 ≡ b → (parts : List (List ℕ)) → 0 < length parts → joined parts ≡ xs → eqb x 13 ≡ false
        → joined (cond b ([] ∷ parts) (onto_first x parts)) ≡ x ∷ xs
    by_feed true feed parts some behind none = joined_more [] parts some ∙ ap (λ (t : List ℕ). 10 ∷ t) behind ∙ ap (λ (n : ℕ). n ∷ xs) (sym (eqb-true x 10 feed))
    by_feed false feed parts some behind none = onto_joined x parts none some ∙ ap (λ (t : List ℕ). x ∷ t) behind
