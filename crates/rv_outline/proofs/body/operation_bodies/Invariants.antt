use Rattle.std.proofs.Common.{◌≡◌, drop, map}
use Rattle.rv_tree.specs.BodyView.{operation_body_view}
use Rattle.rv_outline.specs.Declarations.{operation_bodies_outlined}
use Rattle.rv_outline.proofs.body.operation_bodies.Given as goal

abbrev pub invariant-loop-body : goal.invariant-loop-body
invariant-loop-body l = record {
  draft : operation_bodies_outlined l.scope (map operation_body_view (drop l.body-index l.body-items)) l.draft
      ≡ operation_bodies_outlined l.initial.scope (map operation_body_view l.body-items) l.initial.draft;
  scope : l.scope ≡ l.initial.scope;
}
