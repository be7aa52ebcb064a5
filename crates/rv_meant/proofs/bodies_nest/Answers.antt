use Rattle.rv_meant.proofs.NestedBodies.{bodies_nest}
use Rattle.rv_meant.proofs.bodies_nest.Goals as goal

pub returns : goal.returns
returns c = bodies_nest
