use Rattle.std.proofs.Common.{◌≡◌, drop}
use Rattle.rv_tree.specs.NameView.{identifiers_view}
use Rattle.rv_scope.specs.Scope.{OnlyDeclares, hiding_all}
use Rattle.rv_scope.proofs.members.hide_all.Given as goal

abbrev pub invariant-loop-identifier : goal.invariant-loop-identifier
invariant-loop-identifier l = record {
  scope : hiding_all (identifiers_view (drop l.identifier-index l.identifier-items)) l.scope ≡ hiding_all (identifiers_view l.identifier-items) l.initial.scope;
  only : OnlyDeclares l.initial.scope l.scope;
}
