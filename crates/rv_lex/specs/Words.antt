-- What a whole word is, wherever it stands.
use Rattle.std.specs.Prelude.{◌≡◌, ℕ, ◌<◌, ◌≤◌, Bool, true, ◌&&◌, ◌==◌, nat_le, List, [], ◌∷◌, length, take, drop, slice_index, Some, unwrap_or}
use Rattle.std.specs.Char.{is_ascii_alphabetic}
use Rattle.rv_lex.specs.declared.kind.Kind.{Kind}
use Rattle.rv_lex.specs.declared.kind.Kind.TheVariants as k
use Rattle.rv_lex.specs.Kinds.{Text, reserved, compound, simple, kind_spelled}
use Rattle.rv_lex.specs.Characters.{run, is_spaced}
use Rattle.rv_lex.specs.Literals.{is_literal}
use Rattle.rv_lex.specs.Lexes.{Lexeme}

-- a letter, then letters and digits with single underscores between, at most 64 in all (2.3)
unfoldable pub is_identifier : Text → Bool
is_identifier w =
    is_ascii_alphabetic (slice_index w 0) && (run w == length w) && is_spaced w && nat_le (length w) 64

-- an identifier that is spelled as a reserved word is that word (2.9)
unfoldable pub name_kind : Text → Kind
name_kind w = unwrap_or (kind_spelled reserved w) k.Identifier

-- the whole text is one word of that kind (2.2)
pub data IsWord (kind : Kind) (w : Text) : Type 0 where
  name : is_identifier w ≡ true → kind ≡ name_kind w → IsWord kind w
  literal : is_literal w ≡ true → kind ≡ k.Literal → IsWord kind w
  double : kind_spelled compound w ≡ Some kind → IsWord kind w
  single : kind_spelled simple w ≡ Some kind → IsWord kind w

-- the word is what the text has at its place, and no longer front of what stands there is a word
pub record Stands (z : Text) (t : Lexeme) : Type 0 where
  pub slice : t.text ≡ take (length t.text) (drop t.place z)
  pub is_word : IsWord t.kind t.text
  pub longest : (kind : Kind) (n : ℕ) → length t.text < n → n ≤ length (drop t.place z) →
      IsWord kind (take n (drop t.place z)) → ⊥

-- each of the words stands so in the text
abbrev pub AllStand : Text → List Lexeme → Type 0
AllStand z [] = Unit {0}
AllStand z (t ∷ ts) = Stands z t × AllStand z ts
