-- The words of a text stand in it, each as long as can be.
use Rattle.std.proofs.Common.{◌≡◌, ℕ, ◌+◌, ◌<◌, ◌≤◌, Bool, true, false, not, ◌==◌, List, [], ◌∷◌, length, take, drop, slice_index, Option, Some, None, Ok, map, refl, sym, ap, ◌∙◌, subst, arith, length-take-le}
use Rattle.std.proofs.lemmas.Bool.{eqb-true, not-true, or_left, both_ways}
use Rattle.std.proofs.lemmas.Bool.Decides.{nat_tests}
use Rattle.std.proofs.lemmas.List.{get_or-take, length-map, drop-drop}
use Rattle.std.specs.Char.{is_ascii_alphabetic, is_ascii_alphanumeric, is_ascii_digit, to_ascii_lowercase}
use Rattle.rv_lex.specs.declared.kind.Kind.{Kind}
use Rattle.rv_lex.specs.Kinds.{Text, compound, simple, kind_spelled, spelling}
use Rattle.rv_lex.specs.Characters.{gap_len, run}
use Rattle.rv_lex.specs.Literals.{is_literal}
use Rattle.rv_lex.specs.Front.{word}
use Rattle.rv_lex.specs.Lexes.{past_gap, Leads, Lexes, Lexeme}
use Rattle.rv_lex.specs.Words.{IsWord, name, literal, double, single, is_identifier, Stands, AllStand}
use Rattle.rv_lex.proofs.Lookup.{lower, kind_in-passes, compound-length}
use Rattle.rv_lex.proofs.Spaced.{digit_is_no_letter, digit_is_alphanumeric, letter_is_alphanumeric, name_parts}
use Rattle.rv_lex.proofs.Longest.{either_first, literal_either, no_longer_literal, no_longer_name, run_in_literal}
use Rattle.rv_lex.proofs.Whole.{cut_is_word}
use Rattle.rv_lex.proofs.Parts as parts
use Rattle.rv_lex.proofs.Parts.{WordParts, word_parts}

-- the first byte is no letter and no digit
abbrev begins_apart : Text → Bool
begins_apart t = not (is_ascii_alphanumeric (slice_index t 0))

lower_alphanumeric : (b : ℕ) → is_ascii_alphanumeric b ≡ true → is_ascii_alphanumeric (to_ascii_lowercase b) ≡ true
lower_alphanumeric b h = grind (arith, nat_tests)

lower_begins : (w : Text) → is_ascii_alphanumeric (slice_index w 0) ≡ true → is_ascii_alphanumeric (slice_index (lower w) 0) ≡ true
lower_begins [] h = absurd cc
lower_begins (b ∷ w) h = lower_alphanumeric b h

compound-apart : (w : Text) (found : Kind) → kind_spelled compound w ≡ Some found → begins_apart (lower w) ≡ true
unfolding kind_spelled compound spelling
compound-apart w found h = kind_in-passes begins_apart (map (λ kind. (spelling kind, kind)) compound) w found refl h

simple-apart : (w : Text) (found : Kind) → kind_spelled simple w ≡ Some found → begins_apart (lower w) ≡ true
unfolding kind_spelled simple spelling
simple-apart w found h = kind_in-passes begins_apart (map (λ kind. (spelling kind, kind)) simple) w found refl h

simple-length : (w : Text) (found : Kind) → kind_spelled simple w ≡ Some found → length w ≡ 1
unfolding kind_spelled simple spelling
simple-length w found h =
    sym (length-map w to_ascii_lowercase) ∙ eqb-true (length (lower w)) 1 (kind_in-passes (λ t. length t == 1) (map (λ kind. (spelling kind, kind)) simple) w found refl h)

apart_from : (w : Text) → begins_apart (lower w) ≡ true → is_ascii_alphanumeric (slice_index w 0) ≡ true → ⊥
apart_from w h g = both_ways (is_ascii_alphanumeric (slice_index (lower w) 0)) (not-true (is_ascii_alphanumeric (slice_index (lower w) 0)) h) (lower_begins w g)

-- what a word is follows from its first byte
begins_with_letter : (w : Text) (kind : Kind) → is_ascii_alphabetic (slice_index w 0) ≡ true → IsWord kind w → is_identifier w ≡ true
begins_with_letter w kind a (name h is) = h
begins_with_letter w kind a (literal h is) = absurd (both_ways (is_ascii_alphabetic (slice_index w 0)) (digit_is_no_letter (slice_index w 0) (either_first w (literal_either w h))) a)
begins_with_letter w kind a (double h) = absurd (apart_from w (compound-apart w kind h) (letter_is_alphanumeric (slice_index w 0) a))
begins_with_letter w kind a (single h) = absurd (apart_from w (simple-apart w kind h) (letter_is_alphanumeric (slice_index w 0) a))

begins_with_digit : (w : Text) (kind : Kind) → is_ascii_digit (slice_index w 0) ≡ true → IsWord kind w → is_literal w ≡ true
begins_with_digit w kind d (name h is) = absurd (both_ways (is_ascii_alphabetic (slice_index w 0)) (digit_is_no_letter (slice_index w 0) d) (name_parts w h).letter)
begins_with_digit w kind d (literal h is) = h
begins_with_digit w kind d (double h) = absurd (apart_from w (compound-apart w kind h) (digit_is_alphanumeric (slice_index w 0) d))
begins_with_digit w kind d (single h) = absurd (apart_from w (simple-apart w kind h) (digit_is_alphanumeric (slice_index w 0) d))

abbrev Longest : Text → ℕ → Type 0
Longest z n = (found_kind : Kind) (m : ℕ) → n < m → m ≤ length z → IsWord found_kind (take m z) → ⊥

-- a longer front would be a delimiter of two characters
delimiter_only : (z : Text) (found_kind : Kind) (n m : ℕ) → is_ascii_alphabetic (slice_index z 0) ≡ false → is_ascii_digit (slice_index z 0) ≡ false → 0 < n → n < m → m ≤ length z → IsWord found_kind (take m z) → (m ≡ 2) × (kind_spelled compound (take m z) ≡ Some found_kind)
delimiter_only z found_kind n m a d some more fits (name h is) =
    let first : slice_index (take m z) 0 ≡ slice_index z 0 = get_or-take m z 0 0 (omega arith) in
    absurd (both_ways (is_ascii_alphabetic (slice_index z 0)) a (ap is_ascii_alphabetic (sym first) ∙ (name_parts (take m z) h).letter))
delimiter_only z found_kind n m a d some more fits (literal h is) =
    let first : slice_index (take m z) 0 ≡ slice_index z 0 = get_or-take m z 0 0 (omega arith) in
    absurd (both_ways (is_ascii_digit (slice_index z 0)) d (ap is_ascii_digit (sym first) ∙ either_first (take m z) (literal_either (take m z) h)))
delimiter_only z found_kind n m a d some more fits (double h) = (sym (length-take-le m z fits) ∙ compound-length (take m z) found_kind h, h)
delimiter_only z found_kind n m a d some more fits (single h) = absurd (omega (arith, length-take-le m z fits, simple-length (take m z) found_kind h))

none_is_not_some : (found : Option Kind) (kind : Kind) → found ≡ None → found ≡ Some kind → ⊥
none_is_not_some found kind a b = absurd cc

parts_longest : (z : Text) (kind : Kind) (n : ℕ) → 0 < n → WordParts z kind n → Longest z n
parts_longest z kind n some (parts.named a p) found_kind m more fits h =
    let first : slice_index (take m z) 0 ≡ slice_index z 0 = get_or-take m z 0 0 (omega arith) in
    no_longer_name z m (omega (arith, p.long)) fits (begins_with_letter (take m z) found_kind (ap is_ascii_alphabetic first ∙ a) h)
parts_longest z kind n some (parts.valued a d p) found_kind m more fits h =
    let first : slice_index (take m z) 0 ≡ slice_index z 0 = get_or-take m z 0 0 (omega arith) in
    no_longer_literal z m (omega (arith, p.long)) fits (begins_with_digit (take m z) found_kind (ap is_ascii_digit first ∙ d) h)
parts_longest z kind n some (parts.double a d p) found_kind m more fits h =
    let two = delimiter_only z found_kind n m a d some more fits h in
    absurd (omega (arith, two.0, p.long))
parts_longest z kind n some (parts.single a d p) found_kind m more fits h =
    let two = delimiter_only z found_kind n m a d some more fits h in
    let found : kind_spelled compound (take 2 z) ≡ Some found_kind = subst (λ (x : ℕ). kind_spelled compound (take x z) ≡ Some found_kind) two.0 two.1 in
    none_is_not_some (kind_spelled compound (take 2 z)) found_kind p.none found

pub cut_longest : (z : Text) (kind : Kind) (n : ℕ) → 0 < n → word z ≡ Ok (kind, n) → Longest z n
cut_longest z kind n some h = parts_longest z kind n some (word_parts z kind n h)

run_moves : (z : Text) → is_ascii_alphanumeric (slice_index z 0) ≡ true → 0 < run z
run_moves [] h = absurd cc
run_moves (b ∷ z) h = rw (or_left (is_ascii_alphanumeric b) (b == 95) h) (omega arith)

parts_move : (z : Text) (kind : Kind) (n : ℕ) → WordParts z kind n → 0 < n
parts_move z kind n (parts.named a p) = omega (arith, run_moves z (letter_is_alphanumeric (slice_index z 0) a), p.long)
parts_move z kind n (parts.valued a d p) = omega (arith, run_moves z (digit_is_alphanumeric (slice_index z 0) d), run_in_literal z, p.long)
parts_move z kind n (parts.double a d p) = omega (arith, p.long)
parts_move z kind n (parts.single a d p) = omega (arith, p.long)

-- words are not empty
pub word_moves : (z : Text) (kind : Kind) (n : ℕ) → word z ≡ Ok (kind, n) → 0 < n
word_moves z kind n h = parts_move z kind n (word_parts z kind n h)

stands_at : (z here : Text) (t : Lexeme) → here ≡ drop t.place z → word here ≡ Ok (t.kind, length t.text) → t.text ≡ take (length t.text) here → Stands z t
stands_at z here t at is slice =
    let some : 0 < length t.text = word_moves here t.kind (length t.text) is in
    record {
      slice = slice ∙ ap (take (length t.text)) at;
      is_word = subst (IsWord t.kind) (sym slice) (cut_is_word here t.kind (length t.text) some is);
      longest = subst (λ (l : Text). Longest l (length t.text)) at (cut_longest here t.kind (length t.text) some is);
    }

leads_stand : (ts : List Lexeme) (z : Text) (place : ℕ) (m : Text) (end : ℕ) (rest : Text) → m ≡ drop place z → Leads place m ts end rest → AllStand z ts
leads_stand [] z place m end rest at h = tt
leads_stand (t ∷ ts) z place m end rest at h =
    let here : past_gap m ≡ drop (place + gap_len m) z = ap (drop (gap_len m)) at ∙ drop-drop (gap_len m) place z in
    let there : drop (length t.text) (past_gap m) ≡ drop (place + gap_len m + length t.text) z = ap (drop (length t.text)) here ∙ drop-drop (length t.text) (place + gap_len m) z in (
      stands_at z (past_gap m) t (here ∙ ap (λ p. drop p z) (sym h.2)) h.0 h.1,
      leads_stand ts z (place + gap_len m + length t.text) (drop (length t.text) (past_gap m)) end rest there h.3,
    )

pub lexes_stand : (z : Text) (ts : List Lexeme) → Lexes z ts → AllStand z ts
lexes_stand z ts h = leads_stand ts z 0 z h.end h.rest refl h.words
