use Rattle.std.proofs.Common.{rules}
use Rattle.rv_turn.proofs.KeptBySteps.{counts}
use Rattle.rv_turn.proofs.steps.entries.Goals as goal

pub load-requires : goal.load-requires
load-requires g c = (search rules, search rules, counts g.C.Counted.history g.C.Counted.about g.C.Counted.actor_of _ _ _ _)
