use Rattle.rv_history.proofs.Frame.{unmoved}
use Rattle.rv_history.proofs.laws.bodies.other_entries_move_nobody.Goals as goal

pub returns : goal.returns
returns c = unmoved
