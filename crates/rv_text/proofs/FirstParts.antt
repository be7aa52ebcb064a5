-- A text that is cut at its first line feed, and a line that is cut at its first blank.
use Rattle.std.proofs.Common.{◌≡◌, ℕ, ◌+◌, ◌<◌, ◌≤◌, Bool, true, false, List, [], ◌∷◌, length, get_or, refl, ap, ◌∙◌, arith, eqb, take, drop}
use Rattle.std.specs.Prelude.{◌==◌}
use Rattle.std.specs.List.{filter, slice_split, position_or_len, before_first, after_first}
use Rattle.std.specs.Str.Lines.{lines, lines_of_parts, strip_carriage_return}
use Rattle.std.specs.Str.{IsUtf8, IsCharBoundary}
use Rattle.std.proofs.Common.{not, length-take-le}
use Rattle.std.proofs.lemmas.Bool.Decides.{nat_tests}
use Rattle.std.proofs.lemmas.List.Sums.{passes_at_first, prefix_len-le-length}
use Rattle.std.proofs.lemmas.Str.{IsCharBoundary-end, IsCharBoundary-before_ascii, IsCharBoundary-after_ascii}
use Rattle.std.proofs.lemmas.List.Splits.{slice_split_first, length-slice_split}
use Rattle.rv_text.specs.Words.{is_blank, is_word, words}

whole_more : {X : Type 0} (p : X → Bool) (x : X) (xs : List X) → (position_or_len p xs ≡ length xs → slice_split p xs ≡ xs ∷ []) → position_or_len p (x ∷ xs) ≡ length (x ∷ xs) → (b : Bool) → p x ≡ b → slice_split p (x ∷ xs) ≡ (x ∷ xs) ∷ []
whole_more p x xs more h true e = absurd (grind (arith, e, h))
whole_more p x xs more h false e = let n : position_or_len p xs ≡ length xs = grind (arith, e, h) in rw e (rw (more n) refl)

pub split_whole : {X : Type 0} (p : X → Bool) (xs : List X) → position_or_len p xs ≡ length xs → slice_split p xs ≡ xs ∷ []
split_whole p [] h = refl
split_whole p (x ∷ xs) h = whole_more p x xs (split_whole p xs) h (p x) refl

line_more : (x : List ℕ) (parts : List (List ℕ)) → 0 < length parts → lines_of_parts (x ∷ parts) ≡ strip_carriage_return x ∷ lines_of_parts parts
line_more x [] h = absurd (omega arith)
line_more x (y ∷ parts) h = refl

pub lines_cut : (bs : List ℕ) → position_or_len (λ b. eqb b 10) bs < length bs → lines bs ≡ strip_carriage_return (before_first (λ b. eqb b 10) bs) ∷ lines (after_first (λ b. eqb b 10) bs)
lines_cut bs h =
    let rest = slice_split (λ b. eqb b 10) (after_first (λ b. eqb b 10) bs) in
    let some : 0 < length rest = omega (arith, length-slice_split (λ b. eqb b 10) (after_first (λ b. eqb b 10) bs)) in
    ap lines_of_parts (slice_split_first (λ b. eqb b 10) bs 0 h) ∙ line_more _ rest some

last_part : (x : List ℕ) → 0 < length x → lines_of_parts (x ∷ []) ≡ x ∷ []
last_part x some = let e : eqb (length x) 0 ≡ false = grind (arith, nat_tests) in rw e refl

pub lines_last : (bs : List ℕ) → 0 < length bs → position_or_len (λ b. eqb b 10) bs ≡ length bs → lines bs ≡ bs ∷ []
lines_last [] some h = absurd (omega arith)
lines_last (b ∷ bs) some h = ap lines_of_parts (split_whole (λ b. eqb b 10) (b ∷ bs) h) ∙ last_part (b ∷ bs) some

pub words_cut : (bs : List ℕ) → position_or_len is_blank bs < length bs → words bs ≡ filter is_word (before_first is_blank bs ∷ slice_split is_blank (after_first is_blank bs))
words_cut bs h = ap (filter is_word) (slice_split_first is_blank bs 0 h)

word_more : (x : List ℕ) (parts : List (List ℕ)) → 0 < length x → filter is_word (x ∷ parts) ≡ x ∷ filter is_word parts
word_more [] parts e = absurd (omega arith)
word_more (x ∷ xs) parts e = refl

-- a word at the front, and a blank behind it
pub words_front : (bs : List ℕ) → position_or_len is_blank bs < length bs → 0 < length (before_first is_blank bs) → words bs ≡ before_first is_blank bs ∷ words (after_first is_blank bs)
words_front bs h e = words_cut bs h ∙ word_more (before_first is_blank bs) (slice_split is_blank (after_first is_blank bs)) e

-- one word
pub words_last : (bs : List ℕ) → 0 < length bs → position_or_len is_blank bs ≡ length bs → words bs ≡ bs ∷ []
words_last bs some h = ap (filter is_word) (split_whole is_blank bs h) ∙ word_more bs [] some

blank_small : (b : ℕ) → is_blank b ≡ true → b < 128
blank_small b e = grind (arith, nat_tests, e)

pub at_blank : (bs : List ℕ) → position_or_len is_blank bs < length bs → get_or bs (position_or_len is_blank bs) 0 < 128
at_blank bs h = blank_small _ (passes_at_first is_blank bs 0 h)

pub before_blank : (bs : List ℕ) → IsCharBoundary bs (position_or_len is_blank bs)
before_blank bs = within (position_or_len is_blank bs == length bs) refl
  where
    within : (b : Bool) → (position_or_len is_blank bs == length bs) ≡ b → IsCharBoundary bs (position_or_len is_blank bs)
    within true e = let same : position_or_len is_blank bs ≡ length bs = grind (arith, nat_tests, e) in rw same (IsCharBoundary-end bs)
    within false e = let less : position_or_len is_blank bs < length bs = grind (arith, nat_tests, prefix_len-le-length (λ x. not (is_blank x)) bs, e) in IsCharBoundary-before_ascii bs _ less (at_blank bs less)

pub behind_blank : (bs : List ℕ) → IsUtf8 bs → position_or_len is_blank bs < length bs → IsCharBoundary bs (position_or_len is_blank bs + 1)
behind_blank bs u h = IsCharBoundary-after_ascii bs _ u h (at_blank bs h)

-- the parts of a cut, under any names
pub line_from : (bs line rest stripped : List ℕ) → position_or_len (λ b. eqb b 10) bs < length bs → line ≡ before_first (λ b. eqb b 10) bs → rest ≡ after_first (λ b. eqb b 10) bs → stripped ≡ strip_carriage_return line → lines bs ≡ stripped ∷ lines rest
line_from bs line rest stripped h l r s = lines_cut bs h ∙ (rw (s, l, r) refl)

pub word_from : (text bs word rest : List ℕ) (at : ℕ) → words text ≡ words bs → at ≡ position_or_len is_blank bs → at < length bs → 0 < at → word ≡ take at bs → rest ≡ drop (at + 1) bs → words text ≡ word ∷ words rest
word_from text bs word rest at e a h some w r =
    let inside : position_or_len is_blank bs < length bs = rw (← a) h in
    let long : 0 < length (before_first is_blank bs) = omega (arith, length-take-le (position_or_len is_blank bs) bs (omega arith)) in
    e ∙ words_front bs inside long ∙ (rw (w, r, a) refl)

pub last_from : (text bs : List ℕ) (at : ℕ) → words text ≡ words bs → at ≡ position_or_len is_blank bs → length bs ≤ at → 0 < length bs → words text ≡ bs ∷ []
last_from text bs at e a h some = e ∙ words_last bs some (omega (arith, prefix_len-le-length (λ x. not (is_blank x)) bs))
