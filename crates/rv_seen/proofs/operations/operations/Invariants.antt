use Rattle.std.proofs.Common.{◌≡◌, length, map}
use Rattle.rv_tree.specs.DeclarationView.{operation_view}
use Rattle.rv_seen.specs.At.{at_operations}
use Rattle.rv_seen.proofs.operations.operations.Given as goal

abbrev pub invariant-loop-rest : goal.invariant-loop-rest
invariant-loop-rest l = at_operations l.place (map operation_view l.rest) l.scope ≡ at_operations l.place (map operation_view l.initial.rest) l.initial.scope

abbrev pub decreases-loop-rest : goal.decreases-loop-rest
decreases-loop-rest l = length l.rest
