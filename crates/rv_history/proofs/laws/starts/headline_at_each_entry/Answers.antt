use Rattle.rv_history.proofs.Headlined.{headline_everywhere}
use Rattle.rv_history.proofs.laws.starts.headline_at_each_entry.Goals as goal

pub returns : goal.returns
returns c = headline_everywhere
