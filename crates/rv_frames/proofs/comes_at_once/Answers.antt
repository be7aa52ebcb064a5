use Rattle.rv_frames.proofs.AtOnce.{comes_at_once}
use Rattle.rv_frames.proofs.comes_at_once.Goals as goal

pub returns : goal.returns
returns c = comes_at_once
