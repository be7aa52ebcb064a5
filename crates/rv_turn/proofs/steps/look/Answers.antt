use Rattle.std.proofs.Common.{rules}
use Rattle.rv_turn.proofs.KeptByCuts.{learns}
use Rattle.rv_turn.proofs.steps.look.Goals as goal

pub load-requires : goal.load-requires
load-requires g c = (search rules, search rules, learns g.C.Counted.history g.C.Counted.about g.C.Counted.actor_of _ _ _ _)
