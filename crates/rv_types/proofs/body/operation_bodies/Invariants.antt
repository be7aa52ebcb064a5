use Rattle.std.proofs.Common.{◌≡◌, drop, map}
use Rattle.rv_tree.specs.BodyView.{operation_body_view}
use Rattle.rv_code.specs.BodyView.{body_view}
use Rattle.rv_types.specs.BodiesOf.{operations_onto}
use Rattle.rv_types.proofs.body.operation_bodies.Given as goal

abbrev pub invariant-loop-operation : goal.invariant-loop-operation
invariant-loop-operation l = record {
  scope : l.scope ≡ l.initial.scope;
  code : operations_onto l.setting l.scope (map operation_body_view l.bodies.items) (drop l.operation-index l.operations) (map body_view l.done.items)
      ≡ operations_onto l.setting l.initial.scope (map operation_body_view l.bodies.items) l.operations (map body_view l.initial.done.items);
}
