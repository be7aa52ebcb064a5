use Rattle.std.proofs.Common.{◌≡◌, ◌++◌, drop, map}
use Rattle.std.specs.List.{flat_map}
use Rattle.rv_tree.specs.UnitView.{body_item_view}
use Rattle.rv_distinct.specs.Regions.{declared_by_item}
use Rattle.rv_distinct.proofs.names.items.Given as goal

abbrev pub invariant-loop-one : goal.invariant-loop-one
invariant-loop-one l =
    l.region ++ flat_map declared_by_item (map body_item_view (drop l.one-index l.one-items))
    ≡ l.initial.region ++ flat_map declared_by_item (map body_item_view l.one-items)
