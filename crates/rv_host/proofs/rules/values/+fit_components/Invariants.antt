use Rattle.std.proofs.Common.{length}
use Rattle.rv_host.proofs.rules.values.+fit_components.Given as goal

abbrev pub decreases-fit_components : goal.decreases-fit_components
decreases-fit_components l = length l.components.now
