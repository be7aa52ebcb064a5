use Rattle.std.proofs.Common.{rules}
use Rattle.rv_asked.proofs.Unset.{none_set}
use Rattle.rv_asked.proofs.deciding.decided_in_force.Goals as goal

pub returns-in-None : goal.returns-in-None
returns-in-None c = λ keeps. none_set c.args.host.now c.args.call.now (search rules)
