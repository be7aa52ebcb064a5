use Rattle.std.specs.Prelude.{◌≡◌}
use Rattle.std.specs.Time.{instant_nanos}
use Rattle.rv_pace.specs.Pacing.{missed}
use Rattle.rv_attend.proofs.Ticked.{SoFar}
use Rattle.rv_attend.proofs.ticking.tick.Given as goal

abbrev pub invariant-loop-now : goal.invariant-loop-now
invariant-loop-now g l =
    SoFar l.fn.staff.control l.staff.control l.fn.pace l.pace (instant_nanos l.fn.now) × (l.staff.crew ≡ l.fn.staff.crew)

abbrev pub decreases-loop-now : goal.decreases-loop-now
decreases-loop-now g l = missed l.pace (instant_nanos l.fn.now)
