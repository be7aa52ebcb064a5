use Rattle.std.proofs.Common.{◌≡◌, drop, map}
use Rattle.rv_tree.specs.NameView.{name_view}
use Rattle.rv_scope.specs.Bound.{judged}
use Rattle.rv_scope.specs.UnitUses.{with_names_uses, with_names}
use Rattle.rv_names.proofs.context_names.with_names.Given as goal

abbrev pub invariant-loop-one : goal.invariant-loop-one
invariant-loop-one l = record {
  faults : with_names_uses judged l.scope (map name_view (drop l.one-index l.one-items)) l.faults
      ≡ with_names_uses judged l.initial.scope (map name_view l.one-items) l.initial.faults;
  scope : with_names (map name_view (drop l.one-index l.one-items)) l.scope ≡ with_names (map name_view l.one-items) l.initial.scope;
}
