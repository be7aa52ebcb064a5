use Rattle.std.proofs.Common.{◌≡◌, length, map}
use Rattle.rv_tree.specs.BodyView.{local_view}
use Rattle.rv_seen.specs.At.{at_locals}
use Rattle.rv_seen.proofs.bodies.locals.Given as goal

abbrev pub invariant-loop-rest : goal.invariant-loop-rest
invariant-loop-rest l = at_locals l.place (map local_view l.rest) l.scope ≡ at_locals l.place (map local_view l.initial.rest) l.initial.scope

abbrev pub decreases-loop-rest : goal.decreases-loop-rest
decreases-loop-rest l = length l.rest
