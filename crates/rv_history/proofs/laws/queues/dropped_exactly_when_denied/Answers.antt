use Rattle.rv_history.proofs.HandOver.{dropped_exactly}
use Rattle.rv_history.proofs.laws.queues.dropped_exactly_when_denied.Goals as goal

pub returns : goal.returns
returns c = dropped_exactly
