use Rattle.std.proofs.Common.{length}
use Rattle.rv_port.proofs.Closings.{Meeting}
use Rattle.rv_port.proofs.control.closing.meet_all.Given as goal

abbrev pub invariant-loop-told : goal.invariant-loop-told
invariant-loop-told l = Meeting l.fn.pass l.fn.notes.items l.notes.items l.pass

abbrev pub decreases-loop-told : goal.decreases-loop-told
decreases-loop-told l = length l.notes.items
