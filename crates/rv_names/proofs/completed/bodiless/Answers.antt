use Rattle.rv_tree.specs.UnitView.{unit_view}
use Rattle.rv_names.proofs.HasBody.{completed}
use Rattle.rv_names.proofs.completed.bodiless.Goals as goal

pub returns-in-None : goal.returns-in-None
returns-in-None c = λ h.
    completed (unit_view c.args.tree.now) c.args.names.now c.requires (c.declarations_fault.ensures c.in-None.is) (c.items_fault.ensures h)
