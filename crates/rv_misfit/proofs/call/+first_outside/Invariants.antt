use Rattle.std.proofs.Common.{length}
use Rattle.rv_misfit.proofs.call.+first_outside.Given as goal

abbrev pub decreases-first_outside : goal.decreases-first_outside
decreases-first_outside l = length l.parameters.now
