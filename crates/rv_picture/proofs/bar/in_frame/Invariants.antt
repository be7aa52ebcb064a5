use Rattle.std.proofs.Common.{◌≡◌, take}
use Rattle.rv_picture.specs.Bars.{in_frame}
use Rattle.rv_picture.proofs.bar.in_frame.Given as goal

abbrev pub invariant-loop-moment : goal.invariant-loop-moment
invariant-loop-moment l = l.shown.items ≡ in_frame l.frame (take l.moment-index l.moments)
