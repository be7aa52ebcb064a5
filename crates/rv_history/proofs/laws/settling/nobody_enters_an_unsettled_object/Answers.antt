use Rattle.rv_history.proofs.Settling.{nobody_enters}
use Rattle.rv_history.proofs.laws.settling.nobody_enters_an_unsettled_object.Goals as goal

pub returns : goal.returns
returns c = nobody_enters
