use Rattle.std.proofs.Common.{length}
use Rattle.rv_ends.proofs.ends.+has_stop.Given as goal

abbrev pub decreases-has_stop : goal.decreases-has_stop
decreases-has_stop l = length l.stops.now
