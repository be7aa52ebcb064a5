use Rattle.std.proofs.Common.{◌≡◌, drop, map}
use Rattle.std.specs.List.{list_all}
use Rattle.rv_tree.specs.DeclarationView.{protected_unit_view}
use Rattle.rv_tree.specs.UnitView.{body_item_view}
use Rattle.rv_names.specs.Completed.{unit_wants, has_operation_body}
use Rattle.rv_names.proofs.completed_operations.missing_operation.Given as goal

abbrev pub invariant-loop-unit : goal.invariant-loop-unit
invariant-loop-unit l =
    list_all (λ unit. unit_wants (has_operation_body (map body_item_view l.tree.body.items.items) unit.name.text) unit) (map (λ u. protected_unit_view u.now) (drop l.unit-index l.unit-items))
    ≡ list_all (λ unit. unit_wants (has_operation_body (map body_item_view l.tree.body.items.items) unit.name.text) unit) (map (λ u. protected_unit_view u.now) l.unit-items)
