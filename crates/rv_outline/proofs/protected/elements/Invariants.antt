use Rattle.std.proofs.Common.{◌≡◌, drop, map}
use Rattle.rv_tree.specs.DeclarationView.{element_view}
use Rattle.rv_scope.specs.Scope.{OnlyDeclares}
use Rattle.rv_outline.specs.ProtectedUnits.{elements_outlined}
use Rattle.rv_outline.proofs.protected.elements.Given as goal

abbrev pub invariant-loop-one : goal.invariant-loop-one
invariant-loop-one l = record {
  draft : elements_outlined l.scope (map element_view (drop l.one-index l.one-items)) l.draft
      ≡ elements_outlined l.initial.scope (map element_view l.one-items) l.initial.draft;
  only : OnlyDeclares l.initial.scope l.scope;
}
