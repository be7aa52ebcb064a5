use Rattle.rv_port.proofs.Settlers.{ends_are_settled}
use Rattle.rv_port.proofs.laws.ends_leave_objects_settled.Goals as goal

pub returns : goal.returns
returns c = ends_are_settled
