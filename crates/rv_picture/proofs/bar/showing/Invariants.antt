use Rattle.std.proofs.Common.{◌≡◌, take}
use Rattle.rv_picture.specs.Bars.{showing}
use Rattle.rv_picture.proofs.bar.showing.Given as goal

abbrev pub invariant-loop-bar : goal.invariant-loop-bar
invariant-loop-bar l = l.shown.items ≡ showing l.first l.last (take l.bar-index l.bars)
