use Rattle.std.proofs.Common.{◌≡◌, ◌++◌, drop}
use Rattle.std.specs.Prelude.{string_bytes}
use Rattle.rv_picture.specs.Svg.{lanes_text}
use Rattle.rv_picture.proofs.svg.put_lanes.Given as goal

abbrev pub invariant-loop-lane : goal.invariant-loop-lane
invariant-loop-lane l =
    string_bytes l.text ++ lanes_text l.catalogue l.moments l.bars (drop l.lane-index l.lanes) ≡ string_bytes l.initial.text ++ lanes_text l.catalogue l.moments l.bars l.lanes
