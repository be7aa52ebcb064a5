use Rattle.std.proofs.Common.{length}
use Rattle.rv_hits.proofs.counts.+join.Given as goal

abbrev pub decreases-join : goal.decreases-join
decreases-join l = length l.counts.now
