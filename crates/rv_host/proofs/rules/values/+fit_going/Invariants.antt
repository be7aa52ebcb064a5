use Rattle.std.proofs.Common.{length}
use Rattle.rv_host.proofs.rules.values.+fit_going.Given as goal

abbrev pub decreases-fit_going : goal.decreases-fit_going
decreases-fit_going l = length l.parameters.now
