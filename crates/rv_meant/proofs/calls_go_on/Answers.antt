use Rattle.rv_meant.proofs.Goes.{calls_go_on}
use Rattle.rv_meant.proofs.calls_go_on.Goals as goal

pub returns : goal.returns
returns c = calls_go_on
