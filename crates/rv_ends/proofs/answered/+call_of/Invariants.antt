use Rattle.std.proofs.Common.{length}
use Rattle.rv_ends.proofs.answered.+call_of.Given as goal

abbrev pub decreases-call_of : goal.decreases-call_of
decreases-call_of l = length l.calls.now
