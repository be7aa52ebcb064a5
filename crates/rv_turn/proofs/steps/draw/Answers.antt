use Rattle.std.proofs.Common.{rules}
use Rattle.rv_turn.proofs.KeptBySteps.{draws}
use Rattle.rv_turn.proofs.steps.draw.Goals as goal

pub fetch_add-requires : goal.fetch_add-requires
fetch_add-requires g c = (search rules, search rules, draws g.C.Counted.history g.C.Counted.about g.C.Counted.actor_of _ _ _ _ c.requires.idle.0 c.requires.idle.1 c.requires.idle.2)
