use Rattle.rv_asks.proofs.Runs.{tasks_ask}
use Rattle.rv_asks.proofs.tasks_ask_what_fits.Goals as goal

pub returns : goal.returns
returns c = tasks_ask
