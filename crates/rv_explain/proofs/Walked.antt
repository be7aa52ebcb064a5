-- The lines of a section that were passed, and those that are left.
use Rattle.std.proofs.Common.{◌≡◌, ℕ, ◌+◌, ◌≤◌, Bool, true, false, List, [], ◌∷◌, ◌++◌, length, refl, sym, ap, ◌∙◌, inl, inr, append_assoc, length-append, arith}
use Rattle.std.specs.Prelude.{◌==◌, if◌then◌else◌}
use Rattle.std.specs.List.{slice_split}
use Rattle.std.specs.Str.Lines.{lines, lines_of_parts, strip_carriage_return}
use Rattle.rv_text.specs.Sections.{SectionText}
use Rattle.rv_script.specs.UnitTexts.{joined, without_returns}
use Rattle.rv_explain.specs.Spots.{lines_of, total, StandsAt}

-- this line was passed, and so many bytes are left to the place, over the lines behind
pub record Ahead (section : SectionText) (at number : ℕ) (line : List ℕ) (offset : ℕ) (rest : List (List ℕ)) (left : ℕ) : Type 0 where
  pub before : List (List ℕ)
  pub among : lines_of section ≡ before ++ line ∷ rest
  pub counted : number ≡ section.line + length before
  pub whole : offset ≡ length line
  pub placed : total before + (length line + 1) + left ≡ length section.opening + 1 + at

total_more : (before : List (List ℕ)) (line : List ℕ) → total (before ++ line ∷ []) ≡ total before + (length line + 1)
total_more [] line = omega arith
total_more (first ∷ others) line =
    let more = total_more others line in
    omega arith

counted_more : (before : List (List ℕ)) (line : List ℕ) → length (before ++ line ∷ []) ≡ length before + 1
counted_more [] line = refl
counted_more (first ∷ others) line =
    let more = counted_more others line in
    omega arith

among_more : (section : SectionText) (before : List (List ℕ)) (line : List ℕ) (rest : List (List ℕ)) (next : List ℕ) (others : List (List ℕ))
    → lines_of section ≡ before ++ line ∷ rest → rest ≡ next ∷ others → lines_of section ≡ (before ++ line ∷ []) ++ next ∷ others
among_more section before line rest next others whole e =
    whole ∙ ap (λ (l : List (List ℕ)). before ++ line ∷ l) e ∙ sym (append_assoc before (line ∷ []) (next ∷ others))

-- this line comes next, and so many bytes are left from its beginning to the place
record Next (section : SectionText) (at number : ℕ) (line : List ℕ) (rest : List (List ℕ)) (left : ℕ) : Type 0 where
  before : List (List ℕ)
  among : lines_of section ≡ before ++ line ∷ rest
  counted : number ≡ section.line + length before
  placed : total before + left ≡ length section.opening + 1 + at

comes_next : (section : SectionText) (at number : ℕ) (line : List ℕ) (offset : ℕ) (rest : List (List ℕ)) (left : ℕ) (next : List ℕ) (others : List (List ℕ))
    → Ahead section at number line offset rest left → rest ≡ next ∷ others → Next section at (number + 1) next others left
comes_next section at number line offset rest left next others ahead e =
    let bytes = total_more ahead.before line in
    let count = counted_more ahead.before line in
    let counted = ahead.counted in
    let placed = ahead.placed in
    record {
      before = ahead.before ++ line ∷ [];
      among = among_more section ahead.before line rest next others ahead.among e;
      counted = omega arith;
      placed = omega arith;
    }

-- the place stands on the next line
pub on_next : (section : SectionText) (at number : ℕ) (line : List ℕ) (offset : ℕ) (rest : List (List ℕ)) (left : ℕ) (next : List ℕ) (others : List (List ℕ))
    → Ahead section at number line offset rest left → rest ≡ next ∷ others → left ≤ length next → StandsAt section at (number + 1) next left
on_next section at number line offset rest left next others ahead e within =
    let there = comes_next section at number line offset rest left next others ahead e in
    record { before = there.before; behind = others; among = there.among; counted = there.counted; reached = inl (within, there.placed) }

-- it stands behind the next line
pub past_next : (section : SectionText) (at number : ℕ) (line : List ℕ) (offset : ℕ) (rest : List (List ℕ)) (left : ℕ) (next : List ℕ) (others : List (List ℕ)) (fewer : ℕ)
    → Ahead section at number line offset rest left → rest ≡ next ∷ others → fewer + (length next + 1) ≡ left → Ahead section at (number + 1) next (length next) others fewer
past_next section at number line offset rest left next others fewer ahead e less =
    let there = comes_next section at number line offset rest left next others ahead e in
    let placed = there.placed in
    record { before = there.before; among = there.among; counted = there.counted; whole = refl; placed = omega arith }

-- a text has no more bytes than its lines, each with its line feed
within_parts : (parts : List (List ℕ)) → length (joined parts) ≤ total (lines_of_parts parts)
within_parts [] = omega arith
within_parts (part ∷ []) = by_test (length part == 0) refl
  where
    by_test : (t : Bool) → (length part == 0) ≡ t → length part ≤ total (if t then [] else part ∷ [])
    by_test true e = grind (arith)
    by_test false e = omega arith
within_parts (part ∷ next ∷ parts) =
    let more = within_parts (next ∷ parts) in
    let whole = length-append (strip_carriage_return part) (10 ∷ joined (next ∷ parts)) in
    omega arith

pub within_lines : (text : List ℕ) → length (without_returns text) ≤ total (lines text)
within_lines text = within_parts (slice_split (λ byte. byte == 10) text)

-- no line is left
pub at_end : (section : SectionText) (at number : ℕ) (line : List ℕ) (offset : ℕ) (rest : List (List ℕ)) (left : ℕ)
    → Ahead section at number line offset rest left → rest ≡ [] → at ≤ length (without_returns section.text) → StandsAt section at number line offset
at_end section at number line offset rest left ahead e within =
    let among : lines_of section ≡ ahead.before ++ line ∷ [] = ahead.among ∙ ap (λ (l : List (List ℕ)). ahead.before ++ line ∷ l) e in
    let all : total (lines_of section) ≡ total (ahead.before ++ line ∷ []) = ap total among in
    let bytes = total_more ahead.before line in
    let placed = ahead.placed in
    let whole = ahead.whole in
    let lesser = within_lines section.text in
    record {
      before = ahead.before;
      behind = [];
      among = among;
      counted = ahead.counted;
      reached = inr (refl, whole, omega arith);
    }

-- lines of a script that were passed, and those that are left, the first of which has this number
pub record Passed (script : List ℕ) (next : ℕ) (rest : List (List ℕ)) : Type 0 where
  pub before : List (List ℕ)
  pub among : lines script ≡ before ++ rest
  pub counted : next ≡ length before + 1
