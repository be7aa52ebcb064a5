use Rattle.rv_behind.specs.declared.event.Ask.TheVariants as Wants
use Rattle.rv_port.proofs.Controls.{act_or_worn}
use Rattle.rv_port.proofs.control.Control.view.Goals as goal

pub invariant_of-self : goal.invariant_of-self
invariant_of-self g c = act_or_worn _ _ _ _ _ _ Wants.View _ c.self.invariant tt tt c.act.ensures

pub invariant_of-self-in-Ok : goal.invariant_of-self-in-Ok
invariant_of-self-in-Ok g c = act_or_worn _ _ _ _ _ _ Wants.View _ c.self.invariant tt tt c.act.ensures
