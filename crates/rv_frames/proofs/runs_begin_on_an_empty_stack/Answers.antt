use Rattle.rv_frames.proofs.Begins.{runs_begin}
use Rattle.rv_frames.proofs.runs_begin_on_an_empty_stack.Goals as goal

pub returns : goal.returns
returns c = runs_begin
