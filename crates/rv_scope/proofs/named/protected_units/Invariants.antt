use Rattle.std.proofs.Common.{◌≡◌, drop, map, []}
use Rattle.rv_tree.specs.DeclarationView.{declaration_view, protected_unit_view}
use Rattle.rv_tree.specs.UnitView.{body_item_view}
use Rattle.rv_scope.specs.UnitUses.{units_onto, items_onto}
use Rattle.rv_scope.proofs.named.protected_units.Given as goal

abbrev pub invariant-loop-declaration : goal.invariant-loop-declaration
invariant-loop-declaration l =
    units_onto (map (λ u. protected_unit_view u.now) l.units.items) (map declaration_view (drop l.declaration-index l.declaration-items))
    ≡ units_onto [] (map declaration_view l.declaration-items)

abbrev pub invariant-loop-item : goal.invariant-loop-item
invariant-loop-item l =
    items_onto (map (λ u. protected_unit_view u.now) l.units.items) (map body_item_view (drop l.item-index l.item-items))
    ≡ items_onto (map (λ u. protected_unit_view u.now) l.initial.units.items) (map body_item_view l.item-items)
