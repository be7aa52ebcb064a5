-- Words with a space before each.
use Rattle.std.specs.Prelude.{◌≡◌, ℕ, ◌+◌, List, [], ◌∷◌, ◌++◌, length, Ok}
use Rattle.rv_lex.specs.declared.kind.Kind.{Kind}
use Rattle.rv_lex.specs.Kinds.{Text}
use Rattle.rv_lex.specs.Characters.{gap_len}
use Rattle.rv_lex.specs.Front.{word}
use Rattle.rv_lex.specs.Lexes.{Lexeme}

-- a word as it is written, wherever it stands
pub record Spelled : Type 0 where
  pub kind : Kind
  pub text : Text

-- it is the word that is cut where it stands with a space behind it
pub record IsSpelled (w : Spelled) : Type 0 where
  pub begins : (rest : Text) → gap_len (w.text ++ 32 ∷ rest) ≡ 0
  pub cut : (rest : Text) → word (w.text ++ 32 ∷ rest) ≡ Ok (w.kind, length w.text)

-- each of them is such a word
abbrev pub AreSpelled : List Spelled → Type 0
AreSpelled [] = Unit {0}
AreSpelled (w ∷ ws) = IsSpelled w × AreSpelled ws

-- the words with a space before each and one behind the last
abbrev pub spaced : List Spelled → Text
spaced [] = 32 ∷ []
spaced (w ∷ ws) = 32 ∷ (w.text ++ spaced ws)

-- the words where they stand in that text, which begins at a place
abbrev pub placed : ℕ → List Spelled → List Lexeme
placed at [] = []
placed at (w ∷ ws) =
    record { kind = w.kind; text = w.text; place = at + 1 } ∷ placed (at + 1 + length w.text) ws
