use Rattle.rv_asks.proofs.Runs.{bodies_ask}
use Rattle.rv_asks.proofs.bodies_ask_what_fits.Goals as goal

pub returns : goal.returns
returns c = bodies_ask
