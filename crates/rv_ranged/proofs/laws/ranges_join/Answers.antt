use Rattle.rv_ranged.proofs.Keeps.{ranges_joined}
use Rattle.rv_ranged.proofs.laws.ranges_join.Goals as goal

pub returns : goal.returns
returns c = ranges_joined
