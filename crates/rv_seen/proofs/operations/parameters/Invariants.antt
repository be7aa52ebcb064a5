use Rattle.std.proofs.Common.{◌≡◌, length, map}
use Rattle.rv_tree.specs.DeclarationView.{parameter_view}
use Rattle.rv_seen.specs.At.{at_parameters}
use Rattle.rv_seen.proofs.operations.parameters.Given as goal

abbrev pub invariant-loop-rest : goal.invariant-loop-rest
invariant-loop-rest l = at_parameters l.place (map parameter_view l.rest) l.scope ≡ at_parameters l.place (map parameter_view l.initial.rest) l.initial.scope

abbrev pub decreases-loop-rest : goal.decreases-loop-rest
decreases-loop-rest l = length l.rest
