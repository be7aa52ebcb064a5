use Rattle.rv_meant.proofs.Explaining.{task_ends}
use Rattle.rv_meant.proofs.task_ends_are_explained.Goals as goal

pub returns : goal.returns
returns c = task_ends
