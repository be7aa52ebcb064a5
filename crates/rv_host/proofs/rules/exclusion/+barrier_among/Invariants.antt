use Rattle.std.proofs.Common.{length}
use Rattle.rv_host.proofs.rules.exclusion.+barrier_among.Given as goal

abbrev pub decreases-barrier_among : goal.decreases-barrier_among
decreases-barrier_among l = length l.operations.now
