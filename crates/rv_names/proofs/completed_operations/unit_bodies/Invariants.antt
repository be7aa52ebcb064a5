use Rattle.std.proofs.Common.{◌≡◌, [], drop, map}
use Rattle.rv_tree.specs.NameView.{identifier_view}
use Rattle.rv_tree.specs.UnitView.{body_item_view}
use Rattle.rv_names.specs.Completed.{with_all_bodies_of}
use Rattle.rv_names.proofs.completed_operations.unit_bodies.Given as goal

abbrev pub invariant-loop-item : goal.invariant-loop-item
invariant-loop-item l =
    with_all_bodies_of (identifier_view l.unit.name).text (map body_item_view (drop l.item-index l.item-items)) l.bodies.names
    ≡ with_all_bodies_of (identifier_view l.unit.name).text (map body_item_view l.item-items) []
