use Rattle.std.proofs.Common.{◌≡◌, drop, map}
use Rattle.std.specs.List.{list_all}
use Rattle.rv_tree.specs.UnitView.{body_item_view}
use Rattle.rv_names.specs.EndNames.{body_item_ends}
use Rattle.rv_names.proofs.end_names.items_fault.Given as goal

abbrev pub invariant-loop-one : goal.invariant-loop-one
invariant-loop-one l =
    list_all body_item_ends (map body_item_view (drop l.one-index l.one-items)) ≡ list_all body_item_ends (map body_item_view l.one-items)
