use Rattle.std.proofs.Common.{◌≡◌, drop, map}
use Rattle.std.specs.List.{list_all}
use Rattle.rv_tree.specs.BodyView.{operation_body_view}
use Rattle.rv_names.specs.Jumps.{operation_is_placed}
use Rattle.rv_names.proofs.jumps.operations_fault.Given as goal

abbrev pub invariant-loop-one : goal.invariant-loop-one
invariant-loop-one l =
    list_all operation_is_placed (map operation_body_view (drop l.one-index l.one-items)) ≡ list_all operation_is_placed (map operation_body_view l.one-items)
