use Rattle.rv_history.proofs.Spelled.{steps_spelled}
use Rattle.rv_history.proofs.laws.steps.steps_keep_lists_spelled.Goals as goal

pub returns : goal.returns
returns c = steps_spelled
