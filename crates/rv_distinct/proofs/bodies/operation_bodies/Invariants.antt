use Rattle.std.proofs.Common.{◌≡◌, ◌++◌, drop, map}
use Rattle.rv_tree.specs.BodyView.{operation_body_view}
use Rattle.rv_tree.specs.Operations.{operation_body_name}
use Rattle.rv_distinct.proofs.bodies.operation_bodies.Given as goal

abbrev pub invariant-loop-body : goal.invariant-loop-body
invariant-loop-body l =
    l.region ++ map operation_body_name (map operation_body_view (drop l.body-index l.body-items))
    ≡ l.initial.region ++ map operation_body_name (map operation_body_view l.body-items)
