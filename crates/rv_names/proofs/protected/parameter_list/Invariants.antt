use Rattle.std.proofs.Common.{◌≡◌, drop, map}
use Rattle.rv_tree.specs.DeclarationView.{parameter_view}
use Rattle.rv_scope.specs.Bound.{judged}
use Rattle.rv_scope.specs.Scope.{OnlyDeclares}
use Rattle.rv_scope.specs.DeclarationUses.{parameters_uses, with_parameters}
use Rattle.rv_names.proofs.protected.parameter_list.Given as goal

abbrev pub invariant-loop-one : goal.invariant-loop-one
invariant-loop-one l = record {
  faults : parameters_uses judged l.scope (map parameter_view (drop l.one-index l.one-items)) l.faults
      ≡ parameters_uses judged l.initial.scope (map parameter_view l.one-items) l.initial.faults;
  scope : with_parameters (map parameter_view (drop l.one-index l.one-items)) l.scope ≡ with_parameters (map parameter_view l.one-items) l.initial.scope;
  only : OnlyDeclares l.initial.scope l.scope;
}
