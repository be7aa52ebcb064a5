-- What reading a whole text gives.
use Rattle.std.specs.Prelude.{◌≡◌, Result, Ok, Err, List}
use Rattle.rv_lex.specs.declared.fault.LexFault.{LexFault}
use Rattle.rv_lex.specs.declared.fault.LexFault.TheVariants as lex
use Rattle.rv_lex.specs.Kinds.{Text}
use Rattle.rv_lex.specs.Lexes.{Lexeme, Lexes, Refuses}
use Rattle.rv_tree.specs.declared.unit.UnitTree.{UnitTree}
use Rattle.rv_grammar.specs.Nesting.{NestsTooDeep}
use Rattle.rv_grammar.specs.declared.fault.ParseFault.{ParseFault}
use Rattle.rv_grammar.specs.declared.fault.ParseFault.TheVariants as parse

abbrev pub words_fault : LexFault → ParseFault
words_fault lex.NoMemory = parse.NoMemory
words_fault (lex.BadCharacter place) = parse.Lex (lex.BadCharacter place)
words_fault (lex.BadLiteral place) = parse.Lex (lex.BadLiteral place)
words_fault (lex.BadIdentifier place) = parse.Lex (lex.BadIdentifier place)
words_fault (lex.NotAscii place) = parse.Lex (lex.NotAscii place)

-- the text has words: no fault stands in them
abbrev pub HasLexemes : Text → Type 0
HasLexemes text = (words : List Lexeme) × Lexes text words

-- the fault is the first of the text's words, and never want of memory, which is told apart
abbrev pub IsFirstOfWords : Text → LexFault → Type 0
IsFirstOfWords text lex.NoMemory = ⊥
IsFirstOfWords text (lex.BadCharacter place) = Refuses text (lex.BadCharacter place)
IsFirstOfWords text (lex.BadLiteral place) = Refuses text (lex.BadLiteral place)
IsFirstOfWords text (lex.BadIdentifier place) = Refuses text (lex.BadIdentifier place)
IsFirstOfWords text (lex.NotAscii place) = Refuses text (lex.NotAscii place)

-- faults of words come first: one of the grammar comes only on a text that has words
abbrev pub OfWords : Text → Result UnitTree ParseFault → Type 0
OfWords text (Ok tree) = Unit {0}
OfWords text (Err (parse.Lex fault)) = IsFirstOfWords text fault
OfWords text (Err parse.NoMemory) = Unit {0}
OfWords text (Err (parse.Unexpected at)) = HasLexemes text
OfWords text (Err (parse.TooDeep at)) = HasLexemes text

-- a text is refused as too deep only where it has words that nest too deep
abbrev pub OfDepth : Text → Result UnitTree ParseFault → Type 0
OfDepth text (Ok tree) = Unit {0}
OfDepth text (Err (parse.TooDeep at)) = (words : List Lexeme) × Lexes text words × NestsTooDeep words
OfDepth text (Err (parse.Lex fault)) = Unit {0}
OfDepth text (Err parse.NoMemory) = Unit {0}
OfDepth text (Err (parse.Unexpected at)) = Unit {0}
