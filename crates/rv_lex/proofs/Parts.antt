-- What a word that is cut consists of.
use Rattle.std.proofs.Common.{◌≡◌, ℕ, Bool, true, false, cond, not, ◌&&◌, ◌==◌, nat_le, nat_lt, take, drop, slice_index, Option, Some, None, Result, Ok, Err, unwrap_or, refl, sym, ap, ◌∙◌, ◌⊎◌, inl, inr}
use Rattle.std.proofs.lemmas.Bool.{and_parts, not-true, cond_both}
use Rattle.std.specs.Char.{is_ascii_digit, is_ascii_alphabetic}
use Rattle.std.specs.Option.{option_map_or}
use Rattle.rv_lex.specs.declared.kind.Kind.{Kind}
use Rattle.rv_lex.specs.declared.kind.Kind.TheVariants as k
use Rattle.rv_lex.specs.declared.fault.WordFault.{WordFault}
use Rattle.rv_lex.specs.declared.fault.WordFault.TheVariants.{BadCharacter, BadLiteral, BadIdentifier, NotAscii}
use Rattle.rv_lex.specs.Kinds.{Text, reserved, compound, simple, kind_spelled}
use Rattle.rv_lex.specs.Characters.{run, is_spaced}
use Rattle.rv_lex.specs.Literals.{is_literal}
use Rattle.rv_lex.specs.Front.{word, identifier, literal, literal_len, goes_on, delimiter}

abbrev Cut : Type 0
Cut = Result (Kind × ℕ) WordFault

abbrev fine : Kind × ℕ → Cut
fine x = Ok x

ok_same : (x y : Kind × ℕ) → fine x ≡ fine y → x ≡ y
ok_same x y h = cc

pub record IdentifierParts (z : Text) (kind : Kind) (n : ℕ) : Type 0 where
  pub long : n ≡ run z
  pub short : nat_le (run z) 64 ≡ true
  pub good : is_spaced (take (run z) z) ≡ true
  pub kind_is : kind ≡ unwrap_or (kind_spelled reserved (take (run z) z)) k.Identifier

pub record LiteralParts (z : Text) (kind : Kind) (n : ℕ) : Type 0 where
  pub long : n ≡ literal_len z
  pub good : is_literal (take (literal_len z) z) ≡ true
  pub ends : goes_on (drop (literal_len z) z) ≡ false
  pub kind_is : kind ≡ k.Literal

pub record CompoundParts (z : Text) (kind : Kind) (n : ℕ) : Type 0 where
  pub long : n ≡ 2
  pub other : (slice_index z 0 == 42 && slice_index z 1 == 42) ≡ false
  pub found : kind_spelled compound (take 2 z) ≡ Some kind

pub record SimpleParts (z : Text) (kind : Kind) (n : ℕ) : Type 0 where
  pub long : n ≡ 1
  pub other : (slice_index z 0 == 42 && slice_index z 1 == 42) ≡ false
  pub none : kind_spelled compound (take 2 z) ≡ None
  pub found : kind_spelled simple (take 1 z) ≡ Some kind

pub data WordParts (z : Text) (kind : Kind) (n : ℕ) : Type 0 where
  named : is_ascii_alphabetic (slice_index z 0) ≡ true → IdentifierParts z kind n → WordParts z kind n
  valued : is_ascii_alphabetic (slice_index z 0) ≡ false → is_ascii_digit (slice_index z 0) ≡ true → LiteralParts z kind n → WordParts z kind n
  double : is_ascii_alphabetic (slice_index z 0) ≡ false → is_ascii_digit (slice_index z 0) ≡ false → CompoundParts z kind n → WordParts z kind n
  single : is_ascii_alphabetic (slice_index z 0) ≡ false → is_ascii_digit (slice_index z 0) ≡ false → SimpleParts z kind n → WordParts z kind n

pub identifier_parts : (z : Text) (kind : Kind) (n : ℕ) → identifier z ≡ Ok (kind, n) → IdentifierParts z kind n
unfolding identifier
identifier_parts z kind n =
    let text : Text = take (run z) z in
    let value : Kind × ℕ = (unwrap_or (kind_spelled reserved text) k.Identifier, run z) in
    let ok : Cut = Ok value in
    cond_both (nat_le (run z) 64 && is_spaced text) ok (Err BadIdentifier) (λ (c : Cut). c ≡ Ok (kind, n) → IdentifierParts z kind n)
    (λ yes h. let e : value ≡ (kind, n) = ok_same value (kind, n) h in record { long = sym (ap (λ p. p.1) e); short = (and_parts (nat_le (run z) 64) (is_spaced text) yes).0; good = (and_parts (nat_le (run z) 64) (is_spaced text) yes).1; kind_is = sym (ap (λ p. p.0) e) })
    (λ no h. absurd cc)

pub literal_parts : (z : Text) (kind : Kind) (n : ℕ) → literal z ≡ Ok (kind, n) → LiteralParts z kind n
unfolding literal
literal_parts z kind n =
    let len : ℕ = literal_len z in
    let value : Kind × ℕ = (k.Literal, len) in
    let ok : Cut = Ok value in
    cond_both (is_literal (take len z) && not (goes_on (drop len z))) ok (Err BadLiteral) (λ (c : Cut). c ≡ Ok (kind, n) → LiteralParts z kind n)
    (λ yes h. let e : value ≡ (kind, n) = ok_same value (kind, n) h in record { long = sym (ap (λ p. p.1) e); good = (and_parts (is_literal (take len z)) (not (goes_on (drop len z))) yes).0; ends = not-true (goes_on (drop len z)) (and_parts (is_literal (take len z)) (not (goes_on (drop len z))) yes).1; kind_is = sym (ap (λ p. p.0) e) })
    (λ no h. absurd cc)

abbrev pub one_or : Option Kind → Cut → Cut
one_or found other = option_map_or (λ kind. Ok (kind, 1)) found other

abbrev pub two_or : Option Kind → Cut → Cut
two_or found other = option_map_or (λ kind. Ok (kind, 2)) found other

from_simple : (z : Text) (kind : Kind) (n : ℕ) (fault : WordFault) (found : Option Kind) → found ≡ kind_spelled simple (take 1 z) → one_or found (Err fault) ≡ Ok (kind, n) → (n ≡ 1) × (kind_spelled simple (take 1 z) ≡ Some kind)
from_simple z kind n fault None is h = absurd cc
from_simple z kind n fault (Some got) is h = let s : (got, 1) ≡ (kind, n) = ok_same (got, 1) (kind, n) h in let e : got ≡ kind = ap (λ p. p.0) s in (sym (ap (λ p. p.1) s), sym is ∙ ap (λ g. Some g) e)

abbrev Delimits : Text → Kind → ℕ → Type 0
Delimits z kind n = CompoundParts z kind n ⊎ SimpleParts z kind n

from_compound : (z : Text) (kind : Kind) (n : ℕ) (fault : WordFault) (found : Option Kind) → (slice_index z 0 == 42 && slice_index z 1 == 42) ≡ false → found ≡ kind_spelled compound (take 2 z) → two_or found (one_or (kind_spelled simple (take 1 z)) (Err fault)) ≡ Ok (kind, n) → Delimits z kind n
from_compound z kind n fault None other is h =
    let s = from_simple z kind n fault (kind_spelled simple (take 1 z)) refl h in
    inr (record { long = s.0; other = other; none = sym is; found = s.1 })
from_compound z kind n fault (Some got) other is h =
    let s : (got, 2) ≡ (kind, n) = ok_same (got, 2) (kind, n) h in
    let e : got ≡ kind = ap (λ p. p.0) s in
    inl (record { long = sym (ap (λ p. p.1) s); other = other; found = sym is ∙ ap (λ g. Some g) e })

pub delimiter_parts : (z : Text) (kind : Kind) (n : ℕ) → delimiter z ≡ Ok (kind, n) → Delimits z kind n
unfolding delimiter
delimiter_parts z kind n =
    let fault : WordFault = cond (nat_lt (slice_index z 0) 128) BadCharacter NotAscii in
    let rest : Cut = two_or (kind_spelled compound (take 2 z)) (one_or (kind_spelled simple (take 1 z)) (Err fault)) in
    cond_both (slice_index z 0 == 42 && slice_index z 1 == 42) (Err BadCharacter) rest (λ (c : Cut). c ≡ Ok (kind, n) → Delimits z kind n)
    (λ yes h. absurd cc)
    (λ no h. from_compound z kind n fault (kind_spelled compound (take 2 z)) no refl h)

parts_delimiter : (z : Text) (kind : Kind) (n : ℕ) → is_ascii_alphabetic (slice_index z 0) ≡ false → is_ascii_digit (slice_index z 0) ≡ false → Delimits z kind n → WordParts z kind n
parts_delimiter z kind n a d (inl p) = double a d p
parts_delimiter z kind n a d (inr p) = single a d p

pub word_parts : (z : Text) (kind : Kind) (n : ℕ) → word z ≡ Ok (kind, n) → WordParts z kind n
unfolding word
word_parts z kind n =
    let a : Bool = is_ascii_alphabetic (slice_index z 0) in
    let d : Bool = is_ascii_digit (slice_index z 0) in
    let rest : Cut = cond d (literal z) (delimiter z) in
    cond_both a (identifier z) rest (λ (c : Cut). c ≡ Ok (kind, n) → WordParts z kind n)
    (λ yes h. named yes (identifier_parts z kind n h))
    (λ no. cond_both d (literal z) (delimiter z) (λ (c : Cut). c ≡ Ok (kind, n) → WordParts z kind n)
    (λ yes h. valued no yes (literal_parts z kind n h))
    (λ none h. parts_delimiter z kind n no none (delimiter_parts z kind n h)))
