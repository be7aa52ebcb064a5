use Rattle.std.proofs.Common.{length}
use Rattle.rv_check.specs.Checks.{checking}
use Rattle.rv_check.proofs.Checked.{SoFar}
use Rattle.rv_check.proofs.check.check_parts.Given as goal

abbrev pub invariant-each : goal.invariant-each
invariant-each g l = SoFar checking (g.W.Write.contents l.fn.writer) (g.W.Write.contents l.writer) l.catalogue l.parts l.fn.parts

abbrev pub decreases-each : goal.decreases-each
decreases-each g l = length l.parts
