use Rattle.rv_history.proofs.Released.{woken_exactly}
use Rattle.rv_history.proofs.laws.suspension.woken_exactly_when_set_true.Goals as goal

pub returns : goal.returns
returns c = woken_exactly
