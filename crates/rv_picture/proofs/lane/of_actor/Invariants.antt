use Rattle.std.proofs.Common.{◌≡◌, take}
use Rattle.rv_picture.specs.Bars.{of_actor}
use Rattle.rv_picture.proofs.lane.of_actor.Given as goal

abbrev pub invariant-loop-bar : goal.invariant-loop-bar
invariant-loop-bar l = l.mine.items ≡ of_actor l.actor (take l.bar-index l.bars)
