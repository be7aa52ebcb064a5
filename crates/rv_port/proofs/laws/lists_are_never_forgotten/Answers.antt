use Rattle.rv_port.proofs.Later.{no_earlier}
use Rattle.rv_port.proofs.laws.lists_are_never_forgotten.Goals as goal

pub returns : goal.returns
returns c = no_earlier
