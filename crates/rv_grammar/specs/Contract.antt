-- What a function that reads ensures.
use Rattle.std.specs.Prelude.{◌≡◌, List, Result, Ok, Err}
use Rattle.rv_lex.specs.Lexes.{Lexeme}
use Rattle.rv_grammar.specs.declared.fault.ParseFault.{ParseFault}
use Rattle.rv_grammar.specs.declared.fault.ParseFault.TheVariants.{Lex, NoMemory, Unexpected, TooDeep}
use Rattle.rv_grammar.specs.Reading.{Outcome, unexpected, too_deep}

-- the fault is the rule's, unless memory ran out; no rule has a fault of the words
abbrev pub Refuses : {A : Type 0} → ParseFault → Outcome A → Type 0
Refuses NoMemory outcome = Unit {0}
Refuses (Unexpected at) outcome = outcome ≡ Err unexpected
Refuses (TooDeep at) outcome = outcome ≡ Err too_deep
Refuses (Lex fault) outcome = ⊥

-- the rule's outcome, unless memory ran out
abbrev pub Reads : {A B : Type 0} → (A → B) → Outcome B → Result A ParseFault → List Lexeme → Type 0
Reads view outcome (Ok a) new = outcome ≡ Ok (view a, new)
Reads view outcome (Err e) new = Refuses e outcome
