use Rattle.std.proofs.Common.{length}
use Rattle.rv_placed.proofs.placing.put_from.Given as goal

abbrev pub decreases-each : goal.decreases-each
decreases-each l = length l.sections
