-- What it is for a printed text to derive a tree, places aside.
use Rattle.std.specs.Prelude.{◌≡◌, List, [], ◌∷◌}
use Rattle.rv_lex.specs.Kinds.{Text}
use Rattle.rv_lex.specs.Lexes.{Lexeme, Lexes}
use Rattle.rv_tree.specs.Units.{UnitTree}
use Rattle.rv_tree.specs.Derives.{Derives}
use Rattle.rv_tree.specs.UnitGrammar.{IsUnit}

-- the words are the same, wherever they stand
abbrev pub SameWords : List Lexeme → List Lexeme → Type 0
SameWords [] [] = Unit {0}
SameWords [] (u ∷ us) = ⊥
SameWords (t ∷ ts) [] = ⊥
SameWords (t ∷ ts) (u ∷ us) = (t.kind ≡ u.kind) × (t.text ≡ u.text) × SameWords ts us

-- the words of the text, all of them, are those of the tree, at other places
pub record DerivesAnew (text : Text) (tree : UnitTree) : Type 0 where
  pub words : List Lexeme
  pub whole : IsUnit tree words []
  pub found : List Lexeme
  pub same : SameWords words found
  pub lexes : Lexes text found

-- where any text derives the tree, this one does, places aside
abbrev pub PrintsTree : Text → UnitTree → Type 0
PrintsTree text tree = (source : Text) → Derives source tree → DerivesAnew text tree
