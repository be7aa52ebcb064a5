use Rattle.std.proofs.Common.{◌≡◌, drop, map}
use Rattle.std.specs.List.{list_all}
use Rattle.rv_tree.specs.UnitView.{body_item_view}
use Rattle.rv_names.specs.Jumps.{item_is_placed}
use Rattle.rv_names.proofs.jumps.items_fault.Given as goal

abbrev pub invariant-loop-one : goal.invariant-loop-one
invariant-loop-one l =
    list_all item_is_placed (map body_item_view (drop l.one-index l.one-items)) ≡ list_all item_is_placed (map body_item_view l.one-items)
