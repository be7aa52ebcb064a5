use Rattle.std.proofs.Common.{length}
use Rattle.rv_exec.proofs.bodies.+object_among.Given as goal

abbrev pub decreases-object_among : goal.decreases-object_among
decreases-object_among a = length a.units.now
