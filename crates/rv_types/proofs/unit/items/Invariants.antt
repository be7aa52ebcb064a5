use Rattle.std.proofs.Common.{◌≡◌, drop, map}
use Rattle.rv_tree.specs.DeclarationView.{protected_unit_view}
use Rattle.rv_tree.specs.UnitView.{body_item_view}
use Rattle.rv_code.specs.BodyView.{unit_view}
use Rattle.rv_types.specs.BodiesOf.{items_compiled}
use Rattle.rv_types.proofs.unit.items.Given as goal

abbrev pub invariant-loop-one : goal.invariant-loop-one
invariant-loop-one l =
    items_compiled l.setting (map (λ u. protected_unit_view u.now) l.units) l.scope (map body_item_view (drop l.one-index l.one-items)) (unit_view l.compiled)
    ≡ items_compiled l.setting (map (λ u. protected_unit_view u.now) l.units) l.initial.scope (map body_item_view l.one-items) (unit_view l.initial.compiled)
