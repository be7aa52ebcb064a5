use Rattle.std.proofs.Common.{◌≡◌, ◌++◌, drop, map}
use Rattle.std.specs.List.{flat_map}
use Rattle.rv_tree.specs.UnitView.{body_item_view}
use Rattle.rv_distinct.specs.BodyNames.{operation_bodies}
use Rattle.rv_distinct.proofs.bodies.in_items.Given as goal

abbrev pub invariant-loop-item : goal.invariant-loop-item
invariant-loop-item l =
    l.regions.items ++ flat_map operation_bodies (map body_item_view (drop l.item-index l.item-items))
    ≡ l.initial.regions.items ++ flat_map operation_bodies (map body_item_view l.item-items)
