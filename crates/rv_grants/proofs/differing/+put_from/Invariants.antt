use Rattle.std.proofs.Common.{length}
use Rattle.rv_grants.proofs.differing.+put_from.Given as goal

abbrev pub decreases-put_from : goal.decreases-put_from
decreases-put_from l = length l.ticks.now
