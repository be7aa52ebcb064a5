use Rattle.rv_frames.proofs.Passing.{others_pass}
use Rattle.rv_frames.proofs.others_pass.Goals as goal

pub returns : goal.returns
returns c = others_pass
