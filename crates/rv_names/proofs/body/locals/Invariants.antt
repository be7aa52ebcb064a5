use Rattle.std.proofs.Common.{◌≡◌, drop, map}
use Rattle.rv_tree.specs.BodyView.{local_view}
use Rattle.rv_scope.specs.Bound.{judged}
use Rattle.rv_scope.specs.Scope.{OnlyDeclares}
use Rattle.rv_scope.specs.UnitUses.{locals_uses, with_locals}
use Rattle.rv_names.proofs.body.locals.Given as goal

abbrev pub invariant-loop-one : goal.invariant-loop-one
invariant-loop-one l = record {
  faults : locals_uses judged l.scope (map local_view (drop l.one-index l.one-items)) l.faults
      ≡ locals_uses judged l.initial.scope (map local_view l.one-items) l.initial.faults;
  scope : with_locals (map local_view (drop l.one-index l.one-items)) l.scope ≡ with_locals (map local_view l.one-items) l.initial.scope;
  only : OnlyDeclares l.initial.scope l.scope;
}
