-- Reading whole texts.
use Rattle.std.proofs.Common.{◌≡◌, ◌⊎◌, inl, inr, List, [], Result, Ok, Err, IfOk, subst}
use Rattle.rv_lex.specs.Kinds.{Text}
use Rattle.rv_lex.specs.Lexes.{Lexeme, Lexes, Refuses as FirstFault, HasNoWords, IsNoMemory}
use Rattle.rv_lex.specs.declared.fault.LexFault.{LexFault}
use Rattle.rv_lex.specs.declared.fault.LexFault.TheVariants as lex
use Rattle.rv_tree.specs.Units.{UnitTree}
use Rattle.rv_tree.specs.declared.unit.UnitTree as rust
use Rattle.rv_tree.specs.UnitView.{unit_view}
use Rattle.rv_tree.specs.UnitGrammar.{IsUnit}
use Rattle.rv_tree.specs.Derives.{Derives}
use Rattle.rv_grammar.specs.declared.fault.ParseFault.{ParseFault}
use Rattle.rv_grammar.specs.declared.fault.ParseFault.TheVariants as parse
use Rattle.rv_grammar.specs.Nesting.{NestsTooDeep}
use Rattle.rv_grammar.specs.Words.{ReadsTree, HasWords, DeepWords}
use Rattle.rv_parse.specs.Texts.{OfWords, OfDepth, words_fault}

-- the words of a text are those that were cut
pub same_unit : (text : Text) (found : List Lexeme) (tree : UnitTree) → ((ts : List Lexeme) → Lexes text ts → ts ≡ found) → Derives text tree → IsUnit tree found []
same_unit text found tree only d = subst (λ ts. IsUnit tree ts []) (only d.words d.lexes) d.whole

-- a text with a fault of words derives nothing
pub no_words : (text : Text) (fault : LexFault) (tree : UnitTree) → IsNoMemory fault ⊎ HasNoWords text → Derives text tree → ReadsTree tree (Err (words_fault fault))
no_words text lex.NoMemory tree h d = tt
no_words text (lex.BadCharacter at) tree (inl h) d = absurd cc
no_words text (lex.BadCharacter at) tree (inr h) d = h d.words d.lexes
no_words text (lex.BadLiteral at) tree (inl h) d = absurd cc
no_words text (lex.BadLiteral at) tree (inr h) d = h d.words d.lexes
no_words text (lex.BadIdentifier at) tree (inl h) d = absurd cc
no_words text (lex.BadIdentifier at) tree (inr h) d = h d.words d.lexes
no_words text (lex.NotAscii at) tree (inl h) d = absurd cc
no_words text (lex.NotAscii at) tree (inr h) d = h d.words d.lexes

-- a tree of the words is one of the text
pub sound_text : (text : Text) (cut words : List Lexeme) (result : Result rust.UnitTree ParseFault) → cut ≡ words → Lexes text words → IfOk result (λ tree. IsUnit (unit_view tree) cut []) → IfOk result (λ tree. Derives text (unit_view tree))
sound_text text cut words (Ok tree) same lexes h = record { words = words; lexes = lexes; whole = subst (λ ts. IsUnit (unit_view tree) ts []) same h }
sound_text text cut words (Err fault) same lexes h = tt

-- words that nest too deep are those of the text
pub deep_text : (text : Text) (cut words : List Lexeme) (result : Result rust.UnitTree ParseFault) → cut ≡ words → Lexes text words → DeepWords cut result → OfDepth text result
deep_text text cut words (Ok tree) same lexes h = tt
deep_text text cut words (Err parse.NoMemory) same lexes h = tt
deep_text text cut words (Err (parse.TooDeep at)) same lexes h = (words, lexes, subst (λ ts. NestsTooDeep ts) same h)
deep_text text cut words (Err (parse.Unexpected at)) same lexes h = tt
deep_text text cut words (Err (parse.Lex fault)) same lexes h = tt

-- a fault of the words is no depth
pub words_not_deep : (text : Text) (fault : LexFault) → OfDepth text (Err (words_fault fault))
words_not_deep text lex.NoMemory = tt
words_not_deep text (lex.BadCharacter at) = tt
words_not_deep text (lex.BadLiteral at) = tt
words_not_deep text (lex.BadIdentifier at) = tt
words_not_deep text (lex.NotAscii at) = tt

-- what is told of cut words is told of a text that has words
pub lexed_text : (text : Text) (words : List Lexeme) (result : Result rust.UnitTree ParseFault) → Lexes text words → HasWords result → OfWords text result
lexed_text text words (Ok tree) lexes h = tt
lexed_text text words (Err parse.NoMemory) lexes h = tt
lexed_text text words (Err (parse.TooDeep at)) lexes h = (words, lexes)
lexed_text text words (Err (parse.Unexpected at)) lexes h = (words, lexes)
lexed_text text words (Err (parse.Lex fault)) lexes h = absurd h

-- a fault of the words, as it is told
pub first_of_words : (text : Text) (fault : LexFault) → FirstFault text fault → OfWords text (Err (words_fault fault))
first_of_words text lex.NoMemory h = tt
first_of_words text (lex.BadCharacter at) h = h
first_of_words text (lex.BadLiteral at) h = h
first_of_words text (lex.BadIdentifier at) h = h
first_of_words text (lex.NotAscii at) h = h
