-- What is cut is a whole word.
use Rattle.std.proofs.Common.{◌≡◌, ℕ, ◌<◌, ◌≤◌, true, ◌&&◌, ◌==◌, nat_le, length, take, slice_index, Ok, sym, ap, ◌∙◌, subst, arith, length-take-le}
use Rattle.std.proofs.lemmas.Bool.{eq-eqb, and_from}
use Rattle.std.proofs.lemmas.List.{get_or-take}
use Rattle.std.proofs.lemmas.List.Sums.{prefix_len_is, prefix_len_passes, prefix_len-le-length}
use Rattle.std.specs.Char.{is_ascii_alphabetic}
use Rattle.rv_lex.specs.declared.kind.Kind.{Kind}
use Rattle.rv_lex.specs.Kinds.{Text}
use Rattle.rv_lex.specs.Characters.{is_spaced, is_word_byte, run}
use Rattle.rv_lex.specs.Front.{word}
use Rattle.rv_lex.specs.Words.{IsWord, name, literal, double, single, is_identifier, name_kind}
use Rattle.rv_lex.proofs.Parts as parts
use Rattle.rv_lex.proofs.Parts.{WordParts, IdentifierParts, LiteralParts, CompoundParts, SimpleParts, word_parts}

run_within : (z : Text) → run z ≤ length z
run_within z = prefix_len-le-length is_word_byte z

-- the letters, digits and underscores at the front are all there is of themselves
run_of_run : (z : Text) → run (take (run z) z) ≡ run z
run_of_run z =
    let long : length (take (run z) z) ≡ run z = length-take-le (run z) z (run_within z) in
    prefix_len_is is_word_byte (take (run z) z) (run z) 0 (omega arith)
    (λ k within. ap is_word_byte (get_or-take (run z) z k 0 within) ∙ prefix_len_passes is_word_byte z k 0 within)
    (λ short. absurd (omega arith))

name_is_word : (z : Text) (kind : Kind) (n : ℕ) → is_ascii_alphabetic (slice_index z 0) ≡ true → 0 < n → IdentifierParts z kind n → IsWord kind (take n z)
unfolding is_identifier name_kind
name_is_word z kind n letter some p =
    let w : Text = take (run z) z in
    let long : length w ≡ run z = length-take-le (run z) z (run_within z) in
    let first : slice_index w 0 ≡ slice_index z 0 = get_or-take (run z) z 0 0 (omega (arith, p.long)) in
    let whole : (run w == length w) ≡ true = eq-eqb (run w) (length w) (run_of_run z ∙ sym long) in
    let a : (is_ascii_alphabetic (slice_index w 0) && (run w == length w)) ≡ true =
    and_from (is_ascii_alphabetic (slice_index w 0)) (run w == length w) (ap is_ascii_alphabetic first ∙ letter) whole in
    let b : (is_ascii_alphabetic (slice_index w 0) && (run w == length w) && is_spaced w) ≡ true =
    and_from (is_ascii_alphabetic (slice_index w 0) && (run w == length w)) (is_spaced w) a p.good in
    let all : is_identifier w ≡ true =
    and_from (is_ascii_alphabetic (slice_index w 0) && (run w == length w) && is_spaced w) (nat_le (length w) 64) b (ap (λ l. nat_le l 64) long ∙ p.short) in
    subst (λ (m : ℕ). IsWord kind (take m z)) (sym p.long) (name all p.kind_is)

parts_are_word : (z : Text) (kind : Kind) (n : ℕ) → 0 < n → WordParts z kind n → IsWord kind (take n z)
parts_are_word z kind n some (parts.named a p) = name_is_word z kind n a some p
parts_are_word z kind n some (parts.valued a d p) = subst (λ (m : ℕ). IsWord kind (take m z)) (sym p.long) (literal p.good p.kind_is)
parts_are_word z kind n some (parts.double a d p) = subst (λ (m : ℕ). IsWord kind (take m z)) (sym p.long) (double p.found)
parts_are_word z kind n some (parts.single a d p) = subst (λ (m : ℕ). IsWord kind (take m z)) (sym p.long) (single p.found)

pub cut_is_word : (z : Text) (kind : Kind) (n : ℕ) → 0 < n → word z ≡ Ok (kind, n) → IsWord kind (take n z)
cut_is_word z kind n some h = parts_are_word z kind n some (word_parts z kind n h)
