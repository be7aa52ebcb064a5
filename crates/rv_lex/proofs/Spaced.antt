-- Words with a space before each are cut as they were.
use Rattle.std.proofs.Common.{◌≡◌, ℕ, suc, ◌+◌, ◌<◌, ◌≤◌, true, false, ◌&&◌, ◌==◌, ◌||◌, ◌≢◌, nat_le, length-append, List, [], ◌∷◌, ◌++◌, length, take, drop, slice_index, Ok, refl, sym, ap, ◌∙◌, arith, inl, inr}
use Rattle.std.proofs.lemmas.Bool.{eqb-true, and_parts, or_from, or_cases, or_left, or_right, and_left, and_right, ne_eqb, lt-leb, leb-true}
use Rattle.std.proofs.lemmas.Bool.Decides.{nat_tests}
use Rattle.std.proofs.lemmas.List.{get_or_append_left, get_or_at}
use Rattle.std.proofs.lemmas.List.Sums.{prefix_len_is, prefix_len_passes}
use Rattle.std.specs.Char.{is_ascii_alphabetic, is_ascii_alphanumeric, is_ascii_digit}
use Rattle.rv_lex.specs.declared.kind.Kind.TheVariants as k
use Rattle.rv_lex.specs.Kinds.{Text}
use Rattle.rv_lex.specs.Characters.{gap_len, is_separator, is_spaced, is_word_byte, run}
use Rattle.rv_lex.specs.Front.{word, identifier, literal, literal_len}
use Rattle.rv_lex.specs.Literals.{is_literal}
use Rattle.rv_lex.specs.Words.{is_identifier, name_kind}
use Rattle.rv_lex.specs.Lexes.{Leads, Lexes}
use Rattle.rv_lex.specs.Spaced.{Spelled, IsSpelled, AreSpelled, spaced, placed}

take_front : (xs ys : Text) → take (length xs) (xs ++ ys) ≡ xs
take_front [] ys = refl
take_front (x ∷ xs) ys = ap (λ l. x ∷ l) (take_front xs ys)

drop_front : (xs ys : Text) → drop (length xs) (xs ++ ys) ≡ ys
drop_front [] ys = refl
drop_front (x ∷ xs) ys = drop_front xs ys

-- what is spaced begins with a space
after_space : (ws : List Spelled) → (rest : Text) × (spaced ws ≡ 32 ∷ rest)
after_space [] = ([], refl)
after_space (w ∷ ws) = (w.text ++ spaced ws, refl)

gap_of_space : (z : Text) → gap_len z ≡ 0 → gap_len (32 ∷ z) ≡ 1
unfolding gap_len
gap_of_space z h = ap suc h

spaced_leads : (ws : List Spelled) (at : ℕ) → AreSpelled ws → (end : ℕ) × Leads at (spaced ws) (placed at ws) end (32 ∷ [])
spaced_leads [] at h = (at, (refl, refl))
spaced_leads (w ∷ ws) at h =
    let s = after_space ws in
    let begins : gap_len (w.text ++ spaced ws) ≡ 0 = rw s.1 (h.0.begins s.0) in
    let cut : word (w.text ++ spaced ws) ≡ Ok (w.kind, length w.text) = rw s.1 (h.0.cut s.0) in
    let gap : gap_len (spaced (w ∷ ws)) ≡ 1 = gap_of_space (w.text ++ spaced ws) begins in
    let more = spaced_leads ws (at + 1 + length w.text) h.1 in
    (more.0, rw gap (cut, sym (take_front w.text (spaced ws)), refl, rw drop_front more.1))

-- words that are spaced lex to themselves
pub spaced_lexes : (ws : List Spelled) → AreSpelled ws → Lexes (spaced ws) (placed 0 ws)
unfolding gap_len
spaced_lexes ws h = let l = spaced_leads ws 0 h in record { end = l.0; rest = 32 ∷ []; words = l.1; gap = refl }

-- no gap stands before a letter or a digit
alphanumeric_is_no_gap : (b : ℕ) → is_ascii_alphanumeric b ≡ true → (is_separator b ≡ false) × ((b == 45) ≡ false)
alphanumeric_is_no_gap b h =
    let bounds : 47 < b = grind (arith, nat_tests) in
    let other : b ≢ 32 = omega arith in
    (or_from (b == 32) (nat_le 9 b && nat_le b 13) (ne_eqb b 32 other) (and_right (nat_le 9 b) (nat_le b 13) (lt-leb b 13 (omega arith))), ne_eqb b 45 (omega arith))

pub no_gap : (z : Text) → is_ascii_alphanumeric (slice_index z 0) ≡ true → gap_len z ≡ 0
unfolding gap_len
no_gap [] h = refl
no_gap (b ∷ z) h = let n = alphanumeric_is_no_gap b h in rw (n.1, n.0) refl

-- letters, digits and underscores go as far where a space follows them
pub run_of : (w rest : Text) → run w ≡ length w → run (w ++ 32 ∷ rest) ≡ length w
run_of w rest h = prefix_len_is is_word_byte (w ++ 32 ∷ rest) (length w) 0 (omega (arith, length-append w (32 ∷ rest)))
    (λ k within. ap is_word_byte (get_or_append_left w (32 ∷ rest) 0 k within) ∙ prefix_len_passes is_word_byte w k 0 (omega arith))
    (λ _. ap is_word_byte (get_or_at w 32 rest 0 (length w) refl))

first_of_text : (w rest : Text) → 0 < length w → slice_index (w ++ 32 ∷ rest) 0 ≡ slice_index w 0
first_of_text w rest some = get_or_append_left w (32 ∷ rest) 0 0 some

abbrev pub name : Text → Spelled
name w = record { kind = name_kind w; text = w }

abbrev pub number_word : Text → Spelled
number_word w = record { kind = k.Literal; text = w }

pub letter_is_alphanumeric : (b : ℕ) → is_ascii_alphabetic b ≡ true → is_ascii_alphanumeric b ≡ true
letter_is_alphanumeric b h =
    elim (or_cases (nat_le 65 b && nat_le b 90) (nat_le 97 b && nat_le b 122) h) as (λ _. is_ascii_alphanumeric b ≡ true) [
      | inl upper ↦ or_left ((nat_le 48 b && nat_le b 57) || (nat_le 65 b && nat_le b 90)) (nat_le 97 b && nat_le b 122) (or_right (nat_le 48 b && nat_le b 57) (nat_le 65 b && nat_le b 90) upper)
      | inr lower ↦ or_right ((nat_le 48 b && nat_le b 57) || (nat_le 65 b && nat_le b 90)) (nat_le 97 b && nat_le b 122) lower
    ]

pub digit_is_alphanumeric : (b : ℕ) → is_ascii_digit b ≡ true → is_ascii_alphanumeric b ≡ true
digit_is_alphanumeric b h =
    or_left ((nat_le 48 b && nat_le b 57) || (nat_le 65 b && nat_le b 90)) (nat_le 97 b && nat_le b 122) (or_left (nat_le 48 b && nat_le b 57) (nat_le 65 b && nat_le b 90) h)

pub digit_is_no_letter : (b : ℕ) → is_ascii_digit b ≡ true → is_ascii_alphabetic b ≡ false
digit_is_no_letter b h =
    let high : b ≤ 57 = leb-true b 57 (and_parts (nat_le 48 b) (nat_le b 57) h).1 in
    or_from (nat_le 65 b && nat_le b 90) (nat_le 97 b && nat_le b 122) (and_left (nat_le 65 b) (nat_le b 90) (lt-leb 65 b (omega arith))) (and_left (nat_le 97 b) (nat_le b 122) (lt-leb 97 b (omega arith)))

some_alphanumeric : (w : Text) → is_ascii_alphanumeric (slice_index w 0) ≡ true → 0 < length w
some_alphanumeric [] h = absurd cc
some_alphanumeric (b ∷ w) h = omega arith

pub record NameParts (w : Text) : Type 0 where
  pub letter : is_ascii_alphabetic (slice_index w 0) ≡ true
  pub whole : run w ≡ length w
  pub good : is_spaced w ≡ true
  pub short : nat_le (length w) 64 ≡ true

pub name_parts : (w : Text) → is_identifier w ≡ true → NameParts w
unfolding is_identifier
name_parts w h =
    let a = and_parts (is_ascii_alphabetic (slice_index w 0) && (run w == length w) && is_spaced w) (nat_le (length w) 64) h in
    let b = and_parts (is_ascii_alphabetic (slice_index w 0) && (run w == length w)) (is_spaced w) a.0 in
    let d = and_parts (is_ascii_alphabetic (slice_index w 0)) (run w == length w) b.0 in
    record { letter = d.0; whole = eqb-true (run w) (length w) d.1; good = b.1; short = a.1 }

-- an identifier or a reserved word is cut as it was where a space follows it
pub name_spelled : (w : Text) → is_identifier w ≡ true → IsSpelled (name w)
unfolding word identifier name_kind
name_spelled w h =
    let p = name_parts w h in
    let alphanumeric : is_ascii_alphanumeric (slice_index w 0) ≡ true = letter_is_alphanumeric (slice_index w 0) p.letter in
    let some : 0 < length w = some_alphanumeric w alphanumeric in
    record {
      begins = λ rest. no_gap (w ++ 32 ∷ rest) (ap is_ascii_alphanumeric (first_of_text w rest some) ∙ alphanumeric);
      cut = λ rest. rw (first_of_text w rest some, p.letter, run_of w rest p.whole, take_front w (32 ∷ rest), p.short, p.good) refl;
    }

-- a literal of digits and underscores is cut as it was where a space follows it
pub plain_spelled : (w : Text) → is_ascii_digit (slice_index w 0) ≡ true → run w ≡ length w → is_literal w ≡ true → IsSpelled (number_word w)
unfolding word literal literal_len
plain_spelled w digit whole good =
    let alphanumeric : is_ascii_alphanumeric (slice_index w 0) ≡ true = digit_is_alphanumeric (slice_index w 0) digit in
    let some : 0 < length w = some_alphanumeric w alphanumeric in
    record {
      begins = λ rest. no_gap (w ++ 32 ∷ rest) (ap is_ascii_alphanumeric (first_of_text w rest some) ∙ alphanumeric);
      cut = λ rest. rw (first_of_text w rest some, digit_is_no_letter (slice_index w 0) digit, digit, run_of w rest whole, get_or_at w 32 rest 0 (length w) refl, take_front w (32 ∷ rest), drop_front w (32 ∷ rest), good) refl;
    }
