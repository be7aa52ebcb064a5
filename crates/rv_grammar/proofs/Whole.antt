-- Reading all words of a text.
use Rattle.std.proofs.Common.{◌≡◌, List, [], ◌∷◌, length, Ok, Err, refl, ap, subst, arith}
use Rattle.rv_lex.specs.Lexes.{Lexeme}
use Rattle.rv_tree.specs.Units.{UnitTree}
use Rattle.rv_tree.specs.UnitGrammar.{IsUnit}
use Rattle.rv_grammar.specs.declared.fault.ParseFault.{ParseFault}
use Rattle.rv_grammar.specs.declared.fault.ParseFault.TheVariants as parse
use Rattle.rv_grammar.specs.Reading.{Outcome}
use Rattle.rv_grammar.specs.Contract.{Refuses}
use Rattle.rv_grammar.specs.Words.{ReadsTree}
use Rattle.rv_grammar.specs.UnitRules.{unit}
use Rattle.rv_grammar.proofs.UnitSound.{unit_sound}
use Rattle.rv_grammar.proofs.Forward.{Answers}
use Rattle.rv_grammar.proofs.UnitComplete.{unit_it}

none_left : (ts : List Lexeme) → length ts ≡ 0 → ts ≡ []
none_left [] h = refl
none_left (t ∷ ts) h = absurd (omega arith)

-- what is read is in the grammar
pub found_is_unit : (ts rest : List Lexeme) (tree : UnitTree) → unit ts ≡ Ok (tree, rest) → length rest ≡ 0 → IsUnit tree ts []
found_is_unit ts rest tree h none = subst (λ us. IsUnit tree ts us) (none_left rest none) (unit_sound ts (tree, rest) h)

-- what is in the grammar is what was read, and all of it
pub found_is : (ts rest : List Lexeme) (found tree : UnitTree) → unit ts ≡ Ok (found, rest) → IsUnit tree ts [] → (found ≡ tree) × (rest ≡ [])
found_is ts rest found tree h d =
    let P : Outcome UnitTree → Type 0 = λ o. Answers o tree [] in
    let same = subst P h (unit_it tree ts [] d) in
    (ap (λ (p : UnitTree × List Lexeme). p.0) same, ap (λ (p : UnitTree × List Lexeme). p.1) same)

-- what is in the grammar is refused for want of memory or depth alone
pub refused : (ts : List Lexeme) (fault : ParseFault) (tree : UnitTree) → Refuses fault (unit ts) → IsUnit tree ts [] → ReadsTree tree (Err fault)
refused ts parse.NoMemory tree h d = tt
refused ts (parse.TooDeep at) tree h d = tt
refused ts (parse.Unexpected at) tree h d = let P : Outcome UnitTree → Type 0 = λ o. Answers o tree [] in subst P h (unit_it tree ts [] d)
refused ts (parse.Lex fault) tree h d = absurd h
