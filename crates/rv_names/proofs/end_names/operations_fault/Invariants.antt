use Rattle.std.proofs.Common.{◌≡◌, drop, map}
use Rattle.std.specs.List.{list_all}
use Rattle.rv_tree.specs.BodyView.{operation_body_view}
use Rattle.rv_names.specs.EndNames.{operation_body_ends}
use Rattle.rv_names.proofs.end_names.operations_fault.Given as goal

abbrev pub invariant-loop-one : goal.invariant-loop-one
invariant-loop-one l =
    list_all operation_body_ends (map operation_body_view (drop l.one-index l.one-items)) ≡ list_all operation_body_ends (map operation_body_view l.one-items)
