use Rattle.rv_meant.proofs.NestedBodies.{tasks_nest}
use Rattle.rv_meant.proofs.tasks_nest.Goals as goal

pub returns : goal.returns
returns c = tasks_nest
