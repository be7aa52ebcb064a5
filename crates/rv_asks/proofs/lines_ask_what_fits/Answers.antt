use Rattle.rv_asks.proofs.Runs.{lines_ask}
use Rattle.rv_asks.proofs.lines_ask_what_fits.Goals as goal

pub returns : goal.returns
returns c = lines_ask
