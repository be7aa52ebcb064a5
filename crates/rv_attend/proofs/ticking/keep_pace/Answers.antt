use Rattle.rv_attend.proofs.Chores.{ticks_chores}
use Rattle.rv_attend.proofs.ticking.keep_pace.Goals as goal

pub returns-in-Some-pace-clause-chores : goal.returns-in-Some-pace-clause-chores
returns-in-Some-pace-clause-chores g c = ticks_chores _ _ _ _ _ c.tick.ensures.ticks
