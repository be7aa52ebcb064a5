use Rattle.std.proofs.Common.{◌≡◌, drop, map}
use Rattle.rv_tree.specs.DeclarationView.{pragma_argument_view}
use Rattle.rv_scope.specs.Bound.{judged}
use Rattle.rv_scope.specs.DeclarationUses.{arguments_uses}
use Rattle.rv_names.proofs.pragma.arguments.Given as goal

abbrev pub invariant-loop-argument : goal.invariant-loop-argument
invariant-loop-argument l =
    arguments_uses judged l.scope l.wanted (map pragma_argument_view (drop l.argument-index l.argument-items)) l.faults
    ≡ arguments_uses judged l.scope l.initial.wanted (map pragma_argument_view l.argument-items) l.initial.faults
