use Rattle.std.proofs.Common.{◌≡◌, drop, map}
use Rattle.std.specs.List.{list_all}
use Rattle.rv_tree.specs.DeclarationView.{element_view}
use Rattle.rv_names.specs.Completed.{element_wants, is_in}
use Rattle.rv_names.proofs.completed_operations.elements_fault.Given as goal

abbrev pub invariant-loop-one : goal.invariant-loop-one
invariant-loop-one l =
    list_all (element_wants (is_in l.bodies.names)) (map element_view (drop l.one-index l.one-items)) ≡ list_all (element_wants (is_in l.bodies.names)) (map element_view l.one-items)
