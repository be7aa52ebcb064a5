use Rattle.rv_port.proofs.Bodies.{bodies_later}
use Rattle.rv_port.proofs.laws.bodies_stay.Goals as goal

pub returns : goal.returns
returns c = bodies_later
