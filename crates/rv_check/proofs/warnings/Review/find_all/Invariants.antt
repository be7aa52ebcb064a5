use Rattle.std.proofs.Common.{length}
use Rattle.rv_check.proofs.warnings.Review.find_all.Given as goal

abbrev pub decreases-each : goal.decreases-each
decreases-each l = length l.parts
