use Rattle.std.proofs.Common.{◌≡◌, length, map}
use Rattle.rv_tree.specs.DeclarationView.{declaration_view}
use Rattle.rv_seen.specs.At.{at_declarations}
use Rattle.rv_seen.proofs.declarations.declarations.Given as goal

abbrev pub invariant-loop-rest : goal.invariant-loop-rest
invariant-loop-rest l = at_declarations l.place (map declaration_view l.rest) l.scope ≡ at_declarations l.place (map declaration_view l.initial.rest) l.initial.scope

abbrev pub decreases-loop-rest : goal.decreases-loop-rest
decreases-loop-rest l = length l.rest
