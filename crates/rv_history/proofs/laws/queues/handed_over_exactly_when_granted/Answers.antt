use Rattle.rv_history.proofs.HandOver.{handed_exactly}
use Rattle.rv_history.proofs.laws.queues.handed_over_exactly_when_granted.Goals as goal

pub returns : goal.returns
returns c = handed_exactly
