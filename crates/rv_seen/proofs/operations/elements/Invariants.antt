use Rattle.std.proofs.Common.{◌≡◌, length, map}
use Rattle.rv_tree.specs.DeclarationView.{element_view}
use Rattle.rv_seen.specs.At.{at_elements}
use Rattle.rv_seen.proofs.operations.elements.Given as goal

abbrev pub invariant-loop-rest : goal.invariant-loop-rest
invariant-loop-rest l = at_elements l.place (map element_view l.rest) l.scope ≡ at_elements l.place (map element_view l.initial.rest) l.initial.scope

abbrev pub decreases-loop-rest : goal.decreases-loop-rest
decreases-loop-rest l = length l.rest
