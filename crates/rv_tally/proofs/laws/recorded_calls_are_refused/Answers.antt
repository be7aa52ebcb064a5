use Rattle.rv_tally.proofs.Calls.{recorded_refused}
use Rattle.rv_tally.proofs.laws.recorded_calls_are_refused.Goals as goal

pub returns : goal.returns
returns c = recorded_refused
