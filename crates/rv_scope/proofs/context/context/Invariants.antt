use Rattle.std.proofs.Common.{◌≡◌, drop, map}
use Rattle.rv_tree.specs.UnitView.{context_item_view}
use Rattle.rv_scope.specs.UnitUses.{with_context}
use Rattle.rv_scope.proofs.context.context.Given as goal

abbrev pub invariant-loop-item : goal.invariant-loop-item
invariant-loop-item l =
    with_context (map context_item_view (drop l.item-index l.item-items)) l.scope ≡ with_context (map context_item_view l.item-items) l.initial.scope
