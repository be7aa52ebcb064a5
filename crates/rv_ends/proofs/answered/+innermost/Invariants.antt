use Rattle.std.proofs.Common.{length}
use Rattle.rv_ends.proofs.answered.+innermost.Given as goal

abbrev pub decreases-innermost : goal.decreases-innermost
decreases-innermost l = length l.bodies.now
