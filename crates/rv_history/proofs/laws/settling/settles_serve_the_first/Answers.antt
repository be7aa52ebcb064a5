use Rattle.rv_history.proofs.Settling.{serves_first}
use Rattle.rv_history.proofs.laws.settling.settles_serve_the_first.Goals as goal

pub returns : goal.returns
returns c = serves_first
