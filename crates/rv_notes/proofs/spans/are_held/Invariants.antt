use Rattle.std.proofs.Common.{◌≤◌, ◌-◌}
use Rattle.rv_notes.specs.Covered.{AreHeld}
use Rattle.rv_notes.proofs.spans.are_held.Given as goal

-- the ticks so far are held
abbrev pub invariant-loop-tick : goal.invariant-loop-tick
invariant-loop-tick l = (l.first ≤ l.tick) × AreHeld l.spans l.first l.tick

abbrev pub decreases-loop-tick : goal.decreases-loop-tick
decreases-loop-tick l = l.end - l.tick
