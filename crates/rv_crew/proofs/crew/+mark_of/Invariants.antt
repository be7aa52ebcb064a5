use Rattle.std.proofs.Common.{length}
use Rattle.rv_crew.proofs.crew.+mark_of.Given as goal

abbrev pub decreases-mark_of : goal.decreases-mark_of
decreases-mark_of a = length a.ports.now
