use Rattle.std.proofs.Common.{◌≡◌, [], drop, map}
use Rattle.rv_tree.specs.UnitView.{body_item_view}
use Rattle.rv_names.specs.Completed.{with_bodies}
use Rattle.rv_names.proofs.completed.body_names.Given as goal

abbrev pub invariant-loop-item : goal.invariant-loop-item
invariant-loop-item l =
    with_bodies (map body_item_view (drop l.item-index l.item-items)) l.names ≡ with_bodies (map body_item_view l.item-items) []
