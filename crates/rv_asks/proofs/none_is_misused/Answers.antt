use Rattle.rv_asks.proofs.Misused.{none_misused}
use Rattle.rv_asks.proofs.none_is_misused.Goals as goal

pub returns : goal.returns
returns c = none_misused
