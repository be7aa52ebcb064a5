use Rattle.rv_exec.proofs.StoppedBodies.{tasks_stop_by}
use Rattle.rv_exec.proofs.laws.tasks_stop_by_an_answer.Goals as goal

pub returns : goal.returns
returns c = tasks_stop_by
