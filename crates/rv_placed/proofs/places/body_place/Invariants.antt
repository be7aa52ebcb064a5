use Rattle.std.proofs.Common.{◌≡◌, length}
use Rattle.rv_lex.specs.Lexes.{lexemes}
use Rattle.rv_placed.specs.Places.{body_place}
use Rattle.rv_placed.proofs.places.body_place.Given as goal

abbrev pub invariant-loop-rest : goal.invariant-loop-rest
invariant-loop-rest l = body_place l.object l.operation (lexemes l.words) ≡ body_place l.object l.operation (lexemes l.rest)

abbrev pub decreases-loop-rest : goal.decreases-loop-rest
decreases-loop-rest l = length l.rest
