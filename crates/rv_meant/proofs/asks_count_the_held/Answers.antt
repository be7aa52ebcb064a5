use Rattle.rv_meant.proofs.Counting.{counts_held}
use Rattle.rv_meant.proofs.asks_count_the_held.Goals as goal

pub returns : goal.returns
returns c = counts_held
