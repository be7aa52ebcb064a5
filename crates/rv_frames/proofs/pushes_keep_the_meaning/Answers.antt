use Rattle.rv_frames.proofs.Pushes.{pushes_keep_the_meaning}
use Rattle.rv_frames.proofs.pushes_keep_the_meaning.Goals as goal

pub returns : goal.returns
returns c = pushes_keep_the_meaning
