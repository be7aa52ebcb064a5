use Rattle.std.proofs.Common.{length}
use Rattle.rv_explain.proofs.parts.add_shapes.Given as goal

abbrev pub invariant-each : goal.invariant-each
invariant-each l = Unit {0}

abbrev pub decreases-each : goal.decreases-each
decreases-each l = length l.parts
