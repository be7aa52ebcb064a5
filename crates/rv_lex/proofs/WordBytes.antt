-- Words are ASCII.
use Rattle.std.proofs.Common.{◌≡◌, ℕ, suc, zero, ◌+◌, ◌-◌, ◌<◌, ◌≤◌, true, cond, ◌==◌, nat_lt, [], ◌∷◌, length, take, drop, get_or, slice_index, Some, Ok, map, refl, ap, ◌∙◌, subst, arith, inl, inr}
use Rattle.std.proofs.lemmas.Bool.{cases_order, eqb-true, ltb-true, and_parts, cond_both}
use Rattle.std.proofs.lemmas.Bool.Decides.{nat_tests}
use Rattle.std.proofs.lemmas.List.{get_or-drop, get_or-take, length-take-le}
use Rattle.std.proofs.lemmas.List.Sums.{prefix_len_passes}
use Rattle.std.proofs.lemmas.Str.{IsCharBoundary-before_ascii, IsCharBoundary-after_ascii}
use Rattle.std.specs.Str.{IsCharBoundary, IsUtf8}
use Rattle.std.specs.Char.{to_ascii_lowercase}
use Rattle.std.specs.List.{list_all}
use Rattle.rv_lex.specs.declared.kind.Kind.{Kind}
use Rattle.rv_lex.specs.Kinds.{Text, spelling, compound, simple, kind_spelled}
use Rattle.rv_lex.specs.Characters.{run, is_word_byte}
use Rattle.rv_lex.specs.Front.{word, literal_len}
use Rattle.rv_lex.proofs.Lookup.{lower, kind_in-passes}
use Rattle.rv_lex.proofs.Parts.{WordParts, named, valued, double, single, word_parts}

pub word_byte-ascii : (b : ℕ) → is_word_byte b ≡ true → b < 128
word_byte-ascii b h = grind (arith, nat_tests)

pub run-ascii : (z : Text) (i : ℕ) → i < run z → get_or z i 0 < 128
run-ascii z i h = word_byte-ascii (get_or z i 0) (prefix_len_passes is_word_byte z i 0 h)

second_run-ascii : (z : Text) (from i : ℕ) → from ≤ i → i < from + run (drop from z) → get_or z i 0 < 128
second_run-ascii z from i low high =
    let inside : i - from < run (drop from z) = omega arith in
    let back : from + (i - from) ≡ i = omega arith in
    subst (λ (x : ℕ). x < 128) (get_or-drop from z (i - from) 0 ∙ ap (λ j. get_or z j 0) back) (run-ascii (drop from z) (i - from) inside)

pub literal_len-ascii : (z : Text) (i : ℕ) → i < literal_len z → get_or z i 0 < 128
unfolding literal_len
literal_len-ascii z i =
    let r : ℕ = run z in
    let end : ℕ = run z + 1 + run (drop (run z + 1) z) in
    let inner : ℕ = cond (slice_index z end == 35) (end + 1) end in
    cond_both (slice_index z r == 35) inner r (λ (n : ℕ). i < n → get_or z i 0 < 128)
    (λ sign. cond_both (slice_index z end == 35) (end + 1) end (λ (n : ℕ). i < n → get_or z i 0 < 128)
    (λ last h. elim (cases_order i end) as (λ _. get_or z i 0 < 128) [ inl e ↦ at_sign i end last e | inr o ↦ elim o as (λ _. get_or z i 0 < 128) [ inl below ↦ up_to_end sign below | inr above ↦ absurd (omega arith) ] ])
    (λ _ h. up_to_end sign h))
    (λ _ h. run-ascii z i h)
  where
    at_sign : (j at : ℕ) → (slice_index z at == 35) ≡ true → j ≡ at → get_or z j 0 < 128
    at_sign j at is e = let v : slice_index z at ≡ 35 = eqb-true (slice_index z at) 35 is in rw e (rw v (omega arith))

    up_to_end : (slice_index z (run z) == 35) ≡ true → i < run z + 1 + run (drop (run z + 1) z) → get_or z i 0 < 128
    up_to_end sign h =
        elim (cases_order i (run z)) as (λ _. get_or z i 0 < 128) [
          | inl e ↦ at_sign i (run z) sign e
          | inr o ↦ elim o as (λ _. get_or z i 0 < 128) [
            | inl below ↦ run-ascii z i below
            | inr above ↦ second_run-ascii z (run z + 1) i (omega arith) h
          ]
        ]

lowercase-ascii : (c : ℕ) → to_ascii_lowercase c < 128 → c < 128
lowercase-ascii c h = grind (arith, nat_tests)

pub lower-ascii : (w : Text) (i : ℕ) → i < length w → list_all (λ b. nat_lt b 128) (lower w) ≡ true → get_or w i 0 < 128
lower-ascii [] i h all = absurd (omega arith)
lower-ascii (b ∷ w) zero h all = lowercase-ascii b (ltb-true (to_ascii_lowercase b) 128 (and_parts (nat_lt (to_ascii_lowercase b) 128) (list_all (λ b. nat_lt b 128) (lower w)) all).0)
lower-ascii (b ∷ w) (suc i) h all = lower-ascii w i (omega arith) (and_parts (nat_lt (to_ascii_lowercase b) 128) (list_all (λ b. nat_lt b 128) (lower w)) all).1

compound-ascii : (w : Text) (found : Kind) → kind_spelled compound w ≡ Some found → list_all (λ b. nat_lt b 128) (lower w) ≡ true
unfolding kind_spelled compound spelling
compound-ascii w found h = kind_in-passes (list_all (λ b. nat_lt b 128)) (map (λ kind. (spelling kind, kind)) compound) w found refl h

simple-ascii : (w : Text) (found : Kind) → kind_spelled simple w ≡ Some found → list_all (λ b. nat_lt b 128) (lower w) ≡ true
unfolding kind_spelled simple spelling
simple-ascii w found h = kind_in-passes (list_all (λ b. nat_lt b 128)) (map (λ kind. (spelling kind, kind)) simple) w found refl h

front-ascii : (z : Text) (n i : ℕ) → i < n → n ≤ length z → list_all (λ b. nat_lt b 128) (lower (take n z)) ≡ true → get_or z i 0 < 128
front-ascii z n i h fits all =
    let long : length (take n z) ≡ n = length-take-le n z fits in
    subst (λ (b : ℕ). b < 128) (get_or-take n z i 0 h) (lower-ascii (take n z) i (omega arith) all)

parts-ascii : (z : Text) (kind : Kind) (n i : ℕ) → n ≤ length z → WordParts z kind n → i < n → get_or z i 0 < 128
parts-ascii z kind n i fits (named a p) h = run-ascii z i (omega (arith, p.long))
parts-ascii z kind n i fits (valued a d p) h = literal_len-ascii z i (omega (arith, p.long))
parts-ascii z kind n i fits (double a d p) h = front-ascii z 2 i (omega (arith, p.long)) (omega (arith, p.long)) (compound-ascii (take 2 z) kind p.found)
parts-ascii z kind n i fits (single a d p) h = front-ascii z 1 i (omega (arith, p.long)) (omega (arith, p.long)) (simple-ascii (take 1 z) kind p.found)

pub word-ascii : (z : Text) (kind : Kind) (n i : ℕ) → n ≤ length z → word z ≡ Ok (kind, n) → i < n → get_or z i 0 < 128
word-ascii z kind n i fits h below = parts-ascii z kind n i fits (word_parts z kind n h) below

-- a text may be cut before a word and behind it
pub boundary_before : (z : Text) (skipped : ℕ) (kind : Kind) (n : ℕ) → skipped < length z → n ≤ length (drop skipped z) → 0 < n → word (drop skipped z) ≡ Ok (kind, n) → IsCharBoundary z skipped
boundary_before z skipped kind n within fits some is =
    let low : get_or (drop skipped z) 0 0 < 128 = word-ascii (drop skipped z) kind n 0 fits is some in
    let at : get_or (drop skipped z) 0 0 ≡ get_or z (skipped + 0) 0 = get_or-drop skipped z 0 0 in
    let same : skipped + 0 ≡ skipped = omega arith in
    IsCharBoundary-before_ascii z skipped within (subst (λ (b : ℕ). b < 128) (at ∙ ap (λ i. get_or z i 0) same) low)

pub boundary_behind : (here : Text) (kind : Kind) (n : ℕ) → IsUtf8 here → n ≤ length here → 0 < n → word here ≡ Ok (kind, n) → IsCharBoundary here n
boundary_behind here kind n utf8 fits some is =
    let before : n - 1 < n = omega arith in
    let low : get_or here (n - 1) 0 < 128 = word-ascii here kind n (n - 1) fits is before in
    let at : n - 1 + 1 ≡ n = omega arith in
    subst (IsCharBoundary here) at (IsCharBoundary-after_ascii here (n - 1) utf8 (omega arith) low)
