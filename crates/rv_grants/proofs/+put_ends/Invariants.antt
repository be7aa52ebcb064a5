use Rattle.std.proofs.Common.{length}
use Rattle.rv_grants.proofs.+put_ends.Given as goal

abbrev pub decreases-put_ends : goal.decreases-put_ends
decreases-put_ends l = length l.lines.now
