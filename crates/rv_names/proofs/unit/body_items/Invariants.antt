use Rattle.std.proofs.Common.{◌≡◌, drop, map}
use Rattle.rv_tree.specs.UnitView.{body_item_view}
use Rattle.rv_tree.specs.DeclarationView.{protected_unit_view}
use Rattle.rv_scope.specs.Bound.{judged}
use Rattle.rv_scope.specs.UnitUses.{body_items_uses}
use Rattle.rv_names.proofs.unit.body_items.Given as goal

abbrev pub invariant-loop-item : goal.invariant-loop-item
invariant-loop-item l =
    body_items_uses judged (map (λ u. protected_unit_view u.now) l.units) l.scope (map body_item_view (drop l.item-index l.item-items)) l.faults
    ≡ body_items_uses judged (map (λ u. protected_unit_view u.now) l.units) l.initial.scope (map body_item_view l.item-items) l.initial.faults
