use Rattle.std.proofs.Common.{length}
use Rattle.rv_ends.proofs.others.+of_others.Given as goal

abbrev pub decreases-of_others : goal.decreases-of_others
decreases-of_others g l = length l.all.now
