use Rattle.std.proofs.Common.{◌≡◌, length, map}
use Rattle.rv_tree.specs.DeclarationView.{protected_unit_view}
use Rattle.rv_tree.specs.UnitView.{body_item_view}
use Rattle.rv_seen.specs.At.{at_items}
use Rattle.rv_seen.proofs.unit.items.Given as goal

abbrev pub invariant-loop-rest : goal.invariant-loop-rest
invariant-loop-rest l = at_items l.place (map (λ u. protected_unit_view u.now) l.units) (map body_item_view l.rest) l.scope ≡ at_items l.place (map (λ u. protected_unit_view u.now) l.units) (map body_item_view l.initial.rest) l.initial.scope

abbrev pub decreases-loop-rest : goal.decreases-loop-rest
decreases-loop-rest l = length l.rest
