use Rattle.rv_frames.proofs.Rests.{rests_keep_the_meaning}
use Rattle.rv_frames.proofs.rests_keep_the_meaning.Goals as goal

pub returns : goal.returns
returns c = rests_keep_the_meaning
