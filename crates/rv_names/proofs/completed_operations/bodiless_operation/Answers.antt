use Rattle.std.proofs.Common.{map}
use Rattle.rv_tree.specs.DeclarationView.{protected_unit_view}
use Rattle.rv_tree.specs.UnitView.{body_item_view}
use Rattle.rv_names.proofs.HasBody.{operations_completed}
use Rattle.rv_names.proofs.completed_operations.bodiless_operation.Goals as goal

pub returns : goal.returns
returns c = λ none.
    operations_completed (map body_item_view c.args.items.now.items) (protected_unit_view c.args.unit.now) c.in_ok-bodies.bodies.names c.in_ok-bodies.ensures (c.unit_fault.ensures none)
