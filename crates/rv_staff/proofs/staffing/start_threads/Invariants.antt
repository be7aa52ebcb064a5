use Rattle.rv_staff.proofs.Starting.{GaveBelow}
use Rattle.rv_staff.proofs.staffing.start_threads.Given as goal

abbrev pub invariant-loop-actor : goal.invariant-loop-actor
invariant-loop-actor g l =
    GaveBelow l.fn.session.staff l.session.staff (g.W.Write.contents l.fn.writer) (g.W.Write.contents l.writer) l.actor
