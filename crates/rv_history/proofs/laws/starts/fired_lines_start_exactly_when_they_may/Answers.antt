use Rattle.rv_history.proofs.Fires.{fired_may, may_fires}
use Rattle.rv_history.proofs.laws.starts.fired_lines_start_exactly_when_they_may.Goals as goal

pub returns-clause-nowhere_else : goal.returns-clause-nowhere_else
returns-clause-nowhere_else c = fired_may

pub returns-clause-allowed : goal.returns-clause-allowed
returns-clause-allowed c = may_fires
