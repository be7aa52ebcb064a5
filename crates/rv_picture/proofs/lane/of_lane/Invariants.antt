use Rattle.std.proofs.Common.{◌≡◌, take}
use Rattle.rv_picture.specs.Bars.{of_lane}
use Rattle.rv_picture.proofs.lane.of_lane.Given as goal

abbrev pub invariant-loop-bar : goal.invariant-loop-bar
invariant-loop-bar l = l.mine.items ≡ of_lane l.actor l.object (take l.bar-index l.bars)
