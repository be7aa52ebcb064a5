use Rattle.std.proofs.Common.{◌≡◌, length, map}
use Rattle.rv_tree.specs.BodyView.{handler_view}
use Rattle.rv_seen.specs.At.{at_handlers}
use Rattle.rv_seen.proofs.bodies.handlers.Given as goal

abbrev pub invariant-loop-rest : goal.invariant-loop-rest
invariant-loop-rest l = at_handlers l.place (map handler_view l.rest) l.scope ≡ at_handlers l.place (map handler_view l.initial.rest) l.initial.scope

abbrev pub decreases-loop-rest : goal.decreases-loop-rest
decreases-loop-rest l = length l.rest
