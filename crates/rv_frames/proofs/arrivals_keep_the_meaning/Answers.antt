use Rattle.rv_frames.proofs.Arrivals.{arrivals_keep_the_meaning}
use Rattle.rv_frames.proofs.arrivals_keep_the_meaning.Goals as goal

pub returns : goal.returns
returns c = arrivals_keep_the_meaning
