use Rattle.std.proofs.Common.{◌≡◌, drop, map}
use Rattle.rv_tree.specs.BodyView.{operation_body_view}
use Rattle.rv_names.specs.Completed.{with_operation_bodies}
use Rattle.rv_names.proofs.completed_operations.add_bodies.Given as goal

abbrev pub invariant-loop-body : goal.invariant-loop-body
invariant-loop-body l =
    with_operation_bodies (map operation_body_view (drop l.body-index l.body-items)) l.bodies.names
    ≡ with_operation_bodies (map operation_body_view l.body-items) l.initial.bodies.names
