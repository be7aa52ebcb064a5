use Rattle.rv_exec.proofs.StoppedBodies.{bodies_stop_by}
use Rattle.rv_exec.proofs.laws.bodies_stop_by_an_answer.Goals as goal

pub returns : goal.returns
returns c = bodies_stop_by
