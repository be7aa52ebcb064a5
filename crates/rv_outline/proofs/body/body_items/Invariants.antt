use Rattle.std.proofs.Common.{◌≡◌, drop, map}
use Rattle.rv_tree.specs.UnitView.{body_item_view}
use Rattle.rv_tree.specs.DeclarationView.{protected_unit_view}
use Rattle.rv_outline.specs.Declarations.{body_items_outlined}
use Rattle.rv_outline.proofs.body.body_items.Given as goal

abbrev pub invariant-loop-item : goal.invariant-loop-item
invariant-loop-item l =
    body_items_outlined (map (λ u. protected_unit_view u.now) l.units) l.scope (map body_item_view (drop l.item-index l.item-items)) l.draft
    ≡ body_items_outlined (map (λ u. protected_unit_view u.now) l.units) l.initial.scope (map body_item_view l.item-items) l.initial.draft
