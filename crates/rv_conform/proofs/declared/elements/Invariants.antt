use Rattle.std.proofs.Common.{◌≡◌, ◌++◌, drop, map}
use Rattle.rv_tree.specs.DeclarationView.{element_view}
use Rattle.rv_scope.specs.Scope.{OnlyDeclares}
use Rattle.rv_conform.specs.Profiles.{elements_declared}
use Rattle.rv_conform.proofs.declared.elements.Given as goal

abbrev pub invariant-loop-one : goal.invariant-loop-one
invariant-loop-one l = record {
  done : l.done.items ++ elements_declared l.statics l.scope (map element_view (drop l.one-index l.one-items))
      ≡ l.initial.done.items ++ elements_declared l.statics l.initial.scope (map element_view l.one-items);
  only : OnlyDeclares l.initial.scope l.scope;
}
