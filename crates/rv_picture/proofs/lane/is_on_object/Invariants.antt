use Rattle.std.proofs.Common.{◌≡◌, drop}
use Rattle.rv_picture.specs.Lanes.{is_on_object}
use Rattle.rv_picture.proofs.lane.is_on_object.Given as goal

abbrev pub invariant-loop-bar : goal.invariant-loop-bar
invariant-loop-bar l = is_on_object l.object (drop l.bar-index l.bars) ≡ is_on_object l.object l.bars
