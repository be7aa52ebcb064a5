use Rattle.std.proofs.Common.{◌≡◌, drop, map}
use Rattle.rv_tree.specs.DeclarationView.{parameter_view}
use Rattle.rv_types.specs.BodiesOf.{parameters_taken}
use Rattle.rv_types.proofs.body.take_parameters.Given as goal

abbrev pub invariant-loop-one : goal.invariant-loop-one
invariant-loop-one l = record {
  code : parameters_taken l.parameters (map parameter_view (drop l.one-index l.one-items)) l.point
      ≡ parameters_taken l.parameters (map parameter_view l.one-items) l.initial.point;
  scope : l.point.scope ≡ l.initial.point.scope;
}
