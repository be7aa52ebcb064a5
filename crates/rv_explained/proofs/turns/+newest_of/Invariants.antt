use Rattle.std.proofs.Common.{length}
use Rattle.rv_explained.proofs.turns.+newest_of.Given as goal

abbrev pub decreases-newest_of : goal.decreases-newest_of
decreases-newest_of l = length l.begun.now
