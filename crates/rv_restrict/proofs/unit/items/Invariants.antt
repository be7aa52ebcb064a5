use Rattle.std.proofs.Common.{◌≡◌, drop, map}
use Rattle.rv_tree.specs.UnitView.{unit_view, body_item_view}
use Rattle.rv_restrict.specs.Found.{earlier, each_noted}
use Rattle.rv_restrict.specs.UnitWalk.{item_noted}
use Rattle.rv_restrict.proofs.unit.items.Given as goal

abbrev pub invariant-loop-one : goal.invariant-loop-one
invariant-loop-one l =
    each_noted (item_noted earlier (unit_view l.tree)) (map body_item_view (drop l.one-index l.one-items)) l.first
    ≡ each_noted (item_noted earlier (unit_view l.tree)) (map body_item_view l.one-items) l.initial.first
