use Rattle.std.proofs.Common.{length}
use Rattle.rv_never.proofs.calls.+add_tasks.Given as goal

abbrev pub decreases-add_tasks : goal.decreases-add_tasks
decreases-add_tasks l = length l.bodies.now
