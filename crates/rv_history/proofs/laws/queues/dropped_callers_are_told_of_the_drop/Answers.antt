use Rattle.rv_history.proofs.Handing.{dropped_told}
use Rattle.rv_history.proofs.laws.queues.dropped_callers_are_told_of_the_drop.Goals as goal

pub returns : goal.returns
returns c = dropped_told
