use Rattle.std.proofs.Common.{length}
use Rattle.rv_exec.proofs.bodies.+task_among.Given as goal

abbrev pub decreases-task_among : goal.decreases-task_among
decreases-task_among a = length a.units.now
