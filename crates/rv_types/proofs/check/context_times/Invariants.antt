use Rattle.std.proofs.Common.{◌≡◌, drop, map}
use Rattle.rv_tree.specs.UnitView.{context_item_view}
use Rattle.rv_types.specs.BodiesOf.{context_times}
use Rattle.rv_types.proofs.check.context_times.Given as goal

abbrev pub invariant-loop-item : goal.invariant-loop-item
invariant-loop-item l = context_times l.scope (map context_item_view (drop l.item-index l.item-items)) ≡ context_times l.scope (map context_item_view l.item-items)
