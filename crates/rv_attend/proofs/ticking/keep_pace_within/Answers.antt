use Rattle.rv_attend.proofs.Chores.{once_chores}
use Rattle.rv_attend.proofs.ticking.keep_pace_within.Goals as goal

pub returns-in-Some-pace-clause-chores : goal.returns-in-Some-pace-clause-chores
returns-in-Some-pace-clause-chores g c = once_chores _ _ _ _ _ c.tick_counted.ensures.ticks
