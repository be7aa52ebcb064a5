use Rattle.std.proofs.Common.{◌≡◌, drop, map}
use Rattle.rv_tree.specs.DeclarationView.{element_view}
use Rattle.rv_scope.specs.Scope.{OnlyDeclares}
use Rattle.rv_scope.specs.DeclarationUses.{with_elements}
use Rattle.rv_scope.proofs.members.elements.Given as goal

abbrev pub invariant-loop-one : goal.invariant-loop-one
invariant-loop-one l = record {
  scope : with_elements (map element_view (drop l.one-index l.one-items)) l.scope ≡ with_elements (map element_view l.one-items) l.initial.scope;
  only : OnlyDeclares l.initial.scope l.scope;
}
