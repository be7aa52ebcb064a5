use Rattle.std.proofs.Common.{◌≡◌}
use Rattle.rv_picture.specs.Lanes.{lanes_on}
use Rattle.rv_picture.proofs.lane.add_lanes_on.Given as goal

abbrev pub invariant-loop-object : goal.invariant-loop-object
invariant-loop-object l = l.lanes.items ≡ lanes_on l.actor l.bars l.object l.initial.lanes.items
