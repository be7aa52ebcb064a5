use Rattle.std.proofs.Common.{◌≡◌, drop, map}
use Rattle.std.specs.List.{list_all}
use Rattle.rv_tree.specs.DeclarationView.{operation_view}
use Rattle.rv_names.specs.Completed.{operation_wants, is_in}
use Rattle.rv_names.proofs.completed_operations.operations_fault.Given as goal

abbrev pub invariant-loop-one : goal.invariant-loop-one
invariant-loop-one l =
    list_all (operation_wants (is_in l.bodies.names)) (map operation_view (drop l.one-index l.one-items)) ≡ list_all (operation_wants (is_in l.bodies.names)) (map operation_view l.one-items)
