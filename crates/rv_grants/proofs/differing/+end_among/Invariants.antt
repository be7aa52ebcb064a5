use Rattle.std.proofs.Common.{length}
use Rattle.rv_grants.proofs.differing.+end_among.Given as goal

abbrev pub decreases-end_among : goal.decreases-end_among
decreases-end_among l = length l.ticks.now
