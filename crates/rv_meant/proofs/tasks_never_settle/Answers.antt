use Rattle.rv_meant.proofs.NeverSettling.{tasks_never_settle}
use Rattle.rv_meant.proofs.tasks_never_settle.Goals as goal

pub returns : goal.returns
returns c = tasks_never_settle
