use Rattle.rv_tally.proofs.Calls.{tasks_refused}
use Rattle.rv_tally.proofs.laws.tasks_are_refused.Goals as goal

pub returns : goal.returns
returns c = tasks_refused
