use Rattle.rv_frames.proofs.Asks.{questions_keep_the_meaning}
use Rattle.rv_frames.proofs.questions_keep_the_meaning.Goals as goal

pub returns : goal.returns
returns c = questions_keep_the_meaning
