use Rattle.rv_history.proofs.Settling.{halted_settles}
use Rattle.rv_history.proofs.laws.settling.halted_settles_name_nobody.Goals as goal

pub returns : goal.returns
returns c = halted_settles
