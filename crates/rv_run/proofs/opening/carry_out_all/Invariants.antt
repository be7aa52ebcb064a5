use Rattle.std.proofs.Common.{length}
use Rattle.rv_run.proofs.Prepared.{SoFar}
use Rattle.rv_run.proofs.opening.carry_out_all.Given as goal

abbrev pub invariant-each : goal.invariant-each
invariant-each g l = SoFar l.fn.control l.control l.parts l.fn.parts

abbrev pub decreases-each : goal.decreases-each
decreases-each g l = length l.parts
