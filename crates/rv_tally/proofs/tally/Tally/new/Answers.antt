use Rattle.rv_tally.proofs.Tallies.{tally_none}
use Rattle.rv_tally.proofs.tally.Tally.new.Goals as goal

pub returns : goal.returns
returns c = tally_none
