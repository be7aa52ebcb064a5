-- Faults and their places.
use Rattle.std.specs.Prelude.{ℕ}
use Rattle.rv_lex.specs.declared.fault.WordFault.{WordFault}
use Rattle.rv_lex.specs.declared.fault.WordFault.TheVariants as fault
use Rattle.rv_lex.specs.declared.fault.LexFault.{LexFault}
use Rattle.rv_lex.specs.declared.fault.LexFault.TheVariants as lex

-- the fault of a word, told with the place at which the word begins (own)
abbrev pub fault_at : WordFault → ℕ → LexFault
fault_at fault.BadCharacter place = lex.BadCharacter place
fault_at fault.BadLiteral place = lex.BadLiteral place
fault_at fault.BadIdentifier place = lex.BadIdentifier place
fault_at fault.NotAscii place = lex.NotAscii place
