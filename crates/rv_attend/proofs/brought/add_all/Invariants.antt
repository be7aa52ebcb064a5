use Rattle.std.specs.Prelude.{length}
use Rattle.rv_attend.proofs.brought.add_all.Given as goal

abbrev pub invariant-each : goal.invariant-each
invariant-each l = Unit {0}

abbrev pub decreases-each : goal.decreases-each
decreases-each l = length l.parts
