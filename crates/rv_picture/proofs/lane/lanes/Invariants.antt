use Rattle.std.proofs.Common.{◌≡◌}
use Rattle.rv_picture.specs.Lanes.{lanes_of}
use Rattle.rv_picture.proofs.lane.lanes.Given as goal

abbrev pub invariant-loop-actor : goal.invariant-loop-actor
invariant-loop-actor l = l.found.items ≡ lanes_of l.catalogue l.bars l.actor
