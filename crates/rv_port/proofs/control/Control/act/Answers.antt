use Rattle.rv_port.proofs.Controls.{act_kept}
use Rattle.rv_port.proofs.control.Control.act.Goals as goal

pub invariant_of-self-2 : goal.invariant_of-self-2
invariant_of-self-2 g c = act_kept _ _ _ _ _ _ c.args.ask _ c.self.invariant c.requires.loads c.requires.lists c.in_ok-reply.ensures
