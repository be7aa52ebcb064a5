use Rattle.std.proofs.Common.{◌≡◌, drop, map}
use Rattle.rv_tree.specs.UnitView.{context_item_view}
use Rattle.rv_scope.specs.Bound.{judged}
use Rattle.rv_scope.specs.UnitUses.{context_uses, with_context}
use Rattle.rv_names.proofs.context_names.context_names.Given as goal

abbrev pub invariant-loop-item : goal.invariant-loop-item
invariant-loop-item l = record {
  faults : context_uses judged l.scope (map context_item_view (drop l.item-index l.item-items)) l.faults
      ≡ context_uses judged l.initial.scope (map context_item_view l.item-items) l.initial.faults;
  scope : with_context (map context_item_view (drop l.item-index l.item-items)) l.scope ≡ with_context (map context_item_view l.item-items) l.initial.scope;
}
