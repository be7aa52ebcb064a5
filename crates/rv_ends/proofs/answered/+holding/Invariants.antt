use Rattle.std.proofs.Common.{length}
use Rattle.rv_ends.proofs.answered.+holding.Given as goal

abbrev pub decreases-holding : goal.decreases-holding
decreases-holding l = length l.bodies.now
