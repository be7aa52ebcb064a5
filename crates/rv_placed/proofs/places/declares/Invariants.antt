use Rattle.std.proofs.Common.{◌≡◌, length}
use Rattle.rv_lex.specs.Lexes.{lexemes}
use Rattle.rv_placed.specs.Places.{declares}
use Rattle.rv_placed.proofs.places.declares.Given as goal

abbrev pub invariant-loop-rest : goal.invariant-loop-rest
invariant-loop-rest l = declares l.unit (lexemes l.words) ≡ declares l.unit (lexemes l.rest)

abbrev pub decreases-loop-rest : goal.decreases-loop-rest
decreases-loop-rest l = length l.rest
