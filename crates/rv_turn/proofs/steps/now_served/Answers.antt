use Rattle.std.proofs.Common.{rules}
use Rattle.rv_turn.proofs.KeptBySteps.{calls}
use Rattle.rv_turn.proofs.steps.now_served.Goals as goal

pub load-requires : goal.load-requires
load-requires g c = (search rules, search rules, calls g.C.Counted.history g.C.Counted.about g.C.Counted.actor_of _ _ _ _ c.requires.waits)
