use Rattle.std.proofs.Common.{◌≡◌, ◌++◌, drop, map}
use Rattle.rv_tree.specs.DeclarationView.{parameter_view}
use Rattle.rv_scope.specs.Scope.{OnlyDeclares}
use Rattle.rv_scope.specs.DeclarationUses.{with_parameters}
use Rattle.rv_conform.specs.Profiles.{formals_in}
use Rattle.rv_conform.proofs.operation.formals.Given as goal

abbrev pub invariant-loop-part : goal.invariant-loop-part
invariant-loop-part l = record {
  value : l.done.items ++ formals_in l.statics l.scope (map parameter_view (drop l.part-index l.part-items))
      ≡ formals_in l.statics l.initial.scope (map parameter_view l.part-items);
  scope : with_parameters (map parameter_view (drop l.part-index l.part-items)) l.scope ≡ with_parameters (map parameter_view l.part-items) l.initial.scope;
  only : OnlyDeclares l.initial.scope l.scope;
}
