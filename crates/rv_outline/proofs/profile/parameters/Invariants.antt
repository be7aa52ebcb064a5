use Rattle.std.proofs.Common.{◌≡◌, drop, map, []}
use Rattle.rv_tree.specs.DeclarationView.{parameter_view}
use Rattle.rv_scope.specs.Scope.{OnlyDeclares}
use Rattle.rv_scope.specs.DeclarationUses.{with_parameters}
use Rattle.rv_outline.specs.Profiles.{parameters_onto}
use Rattle.rv_outline.proofs.profile.parameters.Given as goal

abbrev pub invariant-loop-part : goal.invariant-loop-part
invariant-loop-part l = record {
  value : parameters_onto l.of_function l.known l.scope (map parameter_view (drop l.part-index l.part-items)) l.done.items
      ≡ parameters_onto l.of_function l.known l.initial.scope (map parameter_view l.part-items) [];
  faults : l.faults ≡ l.initial.faults;
  scope : with_parameters (map parameter_view (drop l.part-index l.part-items)) l.scope ≡ with_parameters (map parameter_view l.part-items) l.initial.scope;
  only : OnlyDeclares l.initial.scope l.scope;
}
