use Rattle.rv_ranged.proofs.Keeps.{ranges_keep}
use Rattle.rv_ranged.proofs.laws.ranges_keep_fitting.Goals as goal

pub returns : goal.returns
returns c = ranges_keep
