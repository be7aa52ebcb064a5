use Rattle.rv_meant.proofs.NeverSettling.{bodies_never_settle}
use Rattle.rv_meant.proofs.bodies_never_settle.Goals as goal

pub returns : goal.returns
returns c = bodies_never_settle
