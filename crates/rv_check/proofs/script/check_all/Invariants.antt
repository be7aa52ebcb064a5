use Rattle.std.proofs.Common.{length}
use Rattle.rv_check.specs.Scripts.{judging}
use Rattle.rv_check.proofs.Checked.{SoFar}
use Rattle.rv_check.proofs.script.check_all.Given as goal

abbrev pub invariant-each : goal.invariant-each
invariant-each g l =
    SoFar (judging l.purpose l.line l.devices) (g.W.Write.contents l.fn.writer) (g.W.Write.contents l.writer) l.catalogue l.parts l.fn.parts

abbrev pub decreases-each : goal.decreases-each
decreases-each g l = length l.parts
