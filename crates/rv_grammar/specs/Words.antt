-- What reading the words of a text gives.
use Rattle.std.specs.Prelude.{◌≡◌, Result, Ok, Err, List}
use Rattle.rv_tree.specs.Units as t
use Rattle.rv_tree.specs.UnitView.{unit_view}
use Rattle.rv_lex.specs.Lexes.{Lexeme}
use Rattle.rv_tree.specs.declared.unit.UnitTree.{UnitTree}
use Rattle.rv_grammar.specs.Nesting.{NestsTooDeep}
use Rattle.rv_grammar.specs.declared.fault.ParseFault.{ParseFault}
use Rattle.rv_grammar.specs.declared.fault.ParseFault.TheVariants as parse

-- that tree, unless memory or depth runs out
abbrev pub ReadsTree : t.UnitTree → Result UnitTree ParseFault → Type 0
ReadsTree tree (Ok found) = unit_view found ≡ tree
ReadsTree tree (Err parse.NoMemory) = Unit {0}
ReadsTree tree (Err (parse.TooDeep at)) = Unit {0}
ReadsTree tree (Err (parse.Unexpected at)) = ⊥
ReadsTree tree (Err (parse.Lex fault)) = ⊥

-- no fault of words
abbrev pub HasWords : Result UnitTree ParseFault → Type 0
HasWords (Ok tree) = Unit {0}
HasWords (Err parse.NoMemory) = Unit {0}
HasWords (Err (parse.TooDeep at)) = Unit {0}
HasWords (Err (parse.Unexpected at)) = Unit {0}
HasWords (Err (parse.Lex fault)) = ⊥

-- words are refused as too deep only where they nest too deep
abbrev pub DeepWords : List Lexeme → Result UnitTree ParseFault → Type 0
DeepWords words (Ok tree) = Unit {0}
DeepWords words (Err (parse.TooDeep at)) = NestsTooDeep words
DeepWords words (Err (parse.Lex fault)) = Unit {0}
DeepWords words (Err parse.NoMemory) = Unit {0}
DeepWords words (Err (parse.Unexpected at)) = Unit {0}
