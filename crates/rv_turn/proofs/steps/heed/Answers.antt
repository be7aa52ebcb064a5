use Rattle.std.proofs.Common.{rules}
use Rattle.rv_turn.proofs.KeptByCuts.{heeds}
use Rattle.rv_turn.proofs.steps.heed.Goals as goal

pub load-requires : goal.load-requires
load-requires g c = (search rules, search rules, heeds g.C.Counted.history g.C.Counted.about g.C.Counted.actor_of _ _ _ _ c.requires.waits)
