use Rattle.std.proofs.Common.{◌≡◌, drop, map}
use Rattle.rv_tree.specs.DeclarationView.{operation_view}
use Rattle.rv_scope.specs.DeclarationUses.{with_operations}
use Rattle.rv_seen.proofs.operations.enter_operations.Given as goal

abbrev pub invariant-loop-one : goal.invariant-loop-one
invariant-loop-one l =
    with_operations (map operation_view (drop l.one-index l.one-items)) l.scope ≡ with_operations (map operation_view l.one-items) l.initial.scope
