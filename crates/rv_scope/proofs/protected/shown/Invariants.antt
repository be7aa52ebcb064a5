use Rattle.std.proofs.Common.{◌≡◌, drop, map}
use Rattle.rv_tree.specs.DeclarationView.{operation_view}
use Rattle.rv_scope.specs.DeclarationUses.{with_all_shown}
use Rattle.rv_scope.proofs.protected.shown.Given as goal

abbrev pub invariant-loop-one : goal.invariant-loop-one
invariant-loop-one l =
    with_all_shown (map operation_view (drop l.one-index l.one-items)) l.region ≡ with_all_shown (map operation_view l.one-items) l.initial.region
