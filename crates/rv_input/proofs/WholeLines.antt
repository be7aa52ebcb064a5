-- Lines that have come whole.
use Rattle.std.proofs.Common.{◌≡◌, ℕ, zero, suc, ◌+◌, ◌-◌, ◌<◌, Bool, true, false, inl, inr, List, [], ◌∷◌, ◌++◌, length, take, drop, refl, sym, ap, ◌∙◌, subst, arith, append_assoc, cond, length-append}
use Rattle.std.specs.List.{after_first, before_first, onto_first, position_or_len, slice_split}
use Rattle.std.proofs.lemmas.Bool.Decides.{nat_tests}
use Rattle.std.proofs.lemmas.List.Splits.{slice_split_first, length-slice_split}
use Rattle.std.proofs.lemmas.List.Sums.{passes_at_first, split_at_first}
use Rattle.std.specs.Str.{IsUtf8}
use Rattle.rv_text.specs.Sections.{is_line_feed}
use Rattle.rv_input.specs.Whole.{BeginWhole, BeginsLine, EndsLine, EndsText, IsLoadLine, OneIs, all_but_last, whole_lines}

some_parts : (bytes : List ℕ) → 0 < length (slice_split is_line_feed bytes)
some_parts bytes = omega (arith, length-slice_split is_line_feed bytes)

-- The first line

first_but_last : (line : List ℕ) (parts : List (List ℕ)) → 0 < length parts → all_but_last (line ∷ parts) ≡ line ∷ all_but_last parts
first_but_last line [] h = absurd (omega (arith, h))
first_but_last line (x ∷ parts) h = refl

pub lines_first : (bytes line behind : List ℕ) (at : ℕ) → at ≡ position_or_len is_line_feed bytes → at < length bytes → line ≡ take at bytes → behind ≡ drop (at + 1) bytes
    → whole_lines bytes ≡ line ∷ whole_lines behind
lines_first bytes line behind at is within front back =
    let less : position_or_len is_line_feed bytes < length bytes = omega (arith, is, within) in
    let line_is : line ≡ before_first is_line_feed bytes = front ∙ ap (λ (n : ℕ). take n bytes) is in
    let behind_is : behind ≡ after_first is_line_feed bytes = back ∙ ap (λ (n : ℕ). drop (n + 1) bytes) is in
    ap all_but_last (slice_split_first is_line_feed bytes 0 less)
    ∙ (first_but_last (before_first is_line_feed bytes) (slice_split is_line_feed (after_first is_line_feed bytes)) (some_parts (after_first is_line_feed bytes))
    ∙ (ap (λ (l : List ℕ). l ∷ whole_lines (after_first is_line_feed bytes)) (sym line_is) ∙ ap (λ (l : List ℕ). line ∷ whole_lines l) (sym behind_is)))

is_feed : (x : ℕ) → is_line_feed x ≡ true → x ≡ 10
is_feed x e = grind (arith, nat_tests, e)

pub cut_first : (bytes line behind : List ℕ) (at : ℕ) → at ≡ position_or_len is_line_feed bytes → at < length bytes → line ≡ take at bytes → behind ≡ drop (at + 1) bytes
    → bytes ≡ line ++ 10 ∷ behind
cut_first bytes line behind at is within front back =
    let less : position_or_len is_line_feed bytes < length bytes = omega (arith, is, within) in
    let line_is : line ≡ before_first is_line_feed bytes = front ∙ ap (λ (n : ℕ). take n bytes) is in
    let behind_is : behind ≡ after_first is_line_feed bytes = back ∙ ap (λ (n : ℕ). drop (n + 1) bytes) is in
    split_at_first is_line_feed bytes 0 less
    ∙ (ap (λ (x : ℕ). before_first is_line_feed bytes ++ x ∷ after_first is_line_feed bytes) (is_feed _ (passes_at_first is_line_feed bytes 0 less))
    ∙ (ap (λ (l : List ℕ). l ++ 10 ∷ after_first is_line_feed bytes) (sym line_is) ∙ ap (λ (l : List ℕ). line ++ 10 ∷ l) (sym behind_is)))

-- where a line isn't `load`, nothing is needed behind it
pub none_load : (line behind : List ℕ) (is_load : Bool) → (IsUtf8 line → IsLoadLine line → is_load ≡ true) → is_load ≡ false
    → IsUtf8 line → IsLoadLine line → OneIs EndsText (whole_lines behind)
none_load line behind is_load told isn't utf8 load = absurd (both is_load (told utf8 load) isn't)
  where
    both : (b : Bool) → b ≡ true → b ≡ false → ⊥
    both b is isn't = absurd (cc (is, isn't))

pub begins_by : (bytes line behind : List ℕ) (is : Bool) → whole_lines bytes ≡ line ∷ whole_lines behind
    → (is ≡ true → IsUtf8 line → IsLoadLine line → OneIs EndsText (whole_lines behind)) → is ≡ true → BeginWhole (whole_lines bytes)
begins_by bytes line behind is lines followed yes' = subst (λ (l : List (List ℕ)). BeginWhole l) (sym lines) (followed yes')

-- Lines behind others

onto_parts : (b : Bool) (x : ℕ) (parts front back : List (List ℕ)) → parts ≡ front ++ back → 0 < length front
    → cond b ([] ∷ parts) (onto_first x parts) ≡ cond b ([] ∷ front) (onto_first x front) ++ back
onto_parts b x parts [] back is some = absurd (omega (arith, some))
onto_parts true x parts (y ∷ front) back is some = ap (λ (l : List (List ℕ)). [] ∷ l) is
onto_parts false x parts (y ∷ front) back is some = ap (onto_first x) is

parts_behind : (front back : List ℕ) → slice_split is_line_feed (front ++ 10 ∷ back) ≡ slice_split is_line_feed front ++ slice_split is_line_feed back
parts_behind [] back = refl
parts_behind (x ∷ front) back = onto_parts (is_line_feed x) x _ (slice_split is_line_feed front) (slice_split is_line_feed back) (parts_behind front back) (some_parts front)

but_last_behind : {X : Type 0} (front back : List X) → 0 < length back → all_but_last (front ++ back) ≡ front ++ all_but_last back
but_last_behind [] back some = refl
but_last_behind (x ∷ []) [] some = absurd (omega (arith, some))
but_last_behind (x ∷ []) (y ∷ back) some = refl
but_last_behind (x ∷ z ∷ front) back some = ap (λ l. x ∷ l) (but_last_behind (z ∷ front) back some)

one_more : (Is : List ℕ → Type 0) (front back : List (List ℕ)) → OneIs Is back → OneIs Is (front ++ back)
one_more Is [] back one = one
one_more Is (line ∷ front) back one = inr (one_more Is front back one)

lines_behind : (front back : List ℕ) → whole_lines (front ++ 10 ∷ back) ≡ slice_split is_line_feed front ++ whole_lines back
lines_behind front back = ap all_but_last (parts_behind front back) ∙ but_last_behind (slice_split is_line_feed front) (slice_split is_line_feed back) (some_parts back)

-- one of the lines behind the begin of a line is one of all
pub one_behind : (Is : List ℕ → Type 0) (bytes front rest : List ℕ) → bytes ≡ front ++ rest → EndsLine front → OneIs Is (whole_lines rest) → OneIs Is (whole_lines bytes)
one_behind Is bytes front rest is (inl none) one = subst (λ (l : List ℕ). OneIs Is (whole_lines l)) (sym (is ∙ ap (λ (l : List ℕ). l ++ rest) none)) one
one_behind Is bytes front rest is (inr (before, ends)) one =
    let whole : bytes ≡ before ++ 10 ∷ rest = is ∙ (ap (λ (l : List ℕ). l ++ rest) ends ∙ append_assoc before (10 ∷ []) rest) in
    subst (λ (l : List (List ℕ)). OneIs Is l) (sym (ap whole_lines whole ∙ lines_behind before rest)) (one_more Is (slice_split is_line_feed before) (whole_lines rest) one)

-- a line that has come whole is passed
pub one_of_first : (Is : List ℕ → Type 0) (bytes line behind : List ℕ) → whole_lines bytes ≡ line ∷ whole_lines behind → OneIs Is (line ∷ whole_lines behind) → OneIs Is (whole_lines bytes)
one_of_first Is bytes line behind lines one = subst (λ (l : List (List ℕ)). OneIs Is l) (sym lines) one

-- Places

-- what is left begins with a line
pub record LeftOf (bytes rest : List ℕ) : Type 0 where
  pub front : List ℕ
  pub whole : bytes ≡ front ++ rest
  pub ends : EndsLine front

pub left_at_first : (at : ℕ) (bytes rest : List ℕ) → BeginsLine at bytes → rest ≡ drop at bytes → LeftOf bytes rest
left_at_first at bytes rest begins is = record {
  front = begins.front;
  whole = begins.whole ∙ ap (λ (l : List ℕ). begins.front ++ l) (sym (is ∙ (ap (drop at) begins.whole ∙ dropped begins.front begins.rest at begins.long)));
  ends = begins.ends;
}
  where
    dropped : (front rest : List ℕ) (n : ℕ) → length front ≡ n → drop n (front ++ rest) ≡ rest
    dropped [] rest zero e = refl
    dropped [] rest (suc n) e = absurd (omega (arith, e))
    dropped (x ∷ front) rest zero e = absurd (omega (arith, e))
    dropped (x ∷ front) rest (suc n) e = dropped front rest n (omega (arith, e))

pub left_behind : (bytes rest line behind : List ℕ) → rest ≡ line ++ 10 ∷ behind → LeftOf bytes rest → LeftOf bytes behind
left_behind bytes rest line behind is left = record {
  front = (left.front ++ line) ++ 10 ∷ [];
  whole =
      left.whole
      ∙ (ap (λ (l : List ℕ). left.front ++ l) is
      ∙ (sym (append_assoc left.front line (10 ∷ behind)) ∙ sym (append_assoc (left.front ++ line) (10 ∷ []) behind)));
  ends = inr (left.front ++ line, refl);
}

pub begins_at : (at : ℕ) (bytes rest : List ℕ) → LeftOf bytes rest → at ≡ length bytes - length rest → BeginsLine at bytes
begins_at at bytes rest left is = record {
  front = left.front;
  rest = rest;
  whole = left.whole;
  long = let all : length bytes ≡ length left.front + length rest = ap length left.whole ∙ length-append left.front rest in omega (arith, all, is);
  ends = left.ends;
}

pub at_start : (bytes : List ℕ) → BeginsLine 0 bytes
at_start bytes = record { front = []; rest = bytes; whole = refl; long = refl; ends = inl refl }

pub begins_still : (at : ℕ) (bytes more : List ℕ) → BeginsLine at bytes → BeginsLine at (bytes ++ more)
begins_still at bytes more begins = record {
  front = begins.front;
  rest = begins.rest ++ more;
  whole = ap (λ (l : List ℕ). l ++ more) begins.whole ∙ append_assoc begins.front begins.rest more;
  long = begins.long;
  ends = begins.ends;
}
