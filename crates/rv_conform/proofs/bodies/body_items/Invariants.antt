use Rattle.std.proofs.Common.{◌≡◌, drop, map}
use Rattle.rv_tree.specs.DeclarationView.{protected_unit_view}
use Rattle.rv_tree.specs.UnitView.{body_item_view}
use Rattle.rv_conform.specs.Conforms.{items_conform}
use Rattle.rv_conform.proofs.bodies.body_items.Given as goal

abbrev pub invariant-loop-item : goal.invariant-loop-item
invariant-loop-item l =
    items_conform (map (λ u. protected_unit_view u.now) l.units) l.seen (map body_item_view (drop l.item-index l.item-items))
    ≡ items_conform (map (λ u. protected_unit_view u.now) l.units) l.initial.seen (map body_item_view l.item-items)
