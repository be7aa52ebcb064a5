use Rattle.rv_types.proofs.Found.{front_rises}
use Rattle.rv_types.proofs.locals.Locals.pop.Goals as goal

pub invariant_of-self : goal.invariant_of-self
invariant_of-self c = λ rising. front_rises _ _ _ c.pop-last.ensures.items (c.self.invariant rising)
