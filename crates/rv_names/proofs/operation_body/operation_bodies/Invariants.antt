use Rattle.std.proofs.Common.{◌≡◌, drop, map}
use Rattle.rv_tree.specs.BodyView.{operation_body_view}
use Rattle.rv_scope.specs.Bound.{judged}
use Rattle.rv_scope.specs.UnitUses.{operation_bodies_uses}
use Rattle.rv_names.proofs.operation_body.operation_bodies.Given as goal

abbrev pub invariant-loop-body : goal.invariant-loop-body
invariant-loop-body l = record {
  scope : l.scope ≡ l.initial.scope;
  faults : operation_bodies_uses judged l.initial.scope (map operation_body_view (drop l.body-index l.body-items)) l.faults
      ≡ operation_bodies_uses judged l.initial.scope (map operation_body_view l.body-items) l.initial.faults;
}
