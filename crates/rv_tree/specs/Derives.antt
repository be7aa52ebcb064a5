-- What it is for a text to derive a tree.
use Rattle.std.specs.Prelude.{List, []}
use Rattle.rv_lex.specs.Kinds.{Text}
use Rattle.rv_lex.specs.Lexes.{Lexeme, Lexes}
use Rattle.rv_tree.specs.Units.{UnitTree}
use Rattle.rv_tree.specs.UnitGrammar.{IsUnit}

-- the words of the text, all of them, are those of the tree
pub record Derives (text : Text) (tree : UnitTree) : Type 0 where
  pub words : List Lexeme
  pub lexes : Lexes text words
  pub whole : IsUnit tree words []
