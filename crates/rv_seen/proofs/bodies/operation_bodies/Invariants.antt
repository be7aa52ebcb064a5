use Rattle.std.proofs.Common.{◌≡◌, length, map}
use Rattle.rv_tree.specs.BodyView.{operation_body_view}
use Rattle.rv_seen.specs.At.{at_operation_bodies}
use Rattle.rv_seen.proofs.bodies.operation_bodies.Given as goal

abbrev pub invariant-loop-rest : goal.invariant-loop-rest
invariant-loop-rest l = at_operation_bodies l.place (map operation_body_view l.rest) l.scope ≡ at_operation_bodies l.place (map operation_body_view l.initial.rest) l.initial.scope

abbrev pub decreases-loop-rest : goal.decreases-loop-rest
decreases-loop-rest l = length l.rest
