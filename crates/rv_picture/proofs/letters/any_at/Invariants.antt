use Rattle.std.proofs.Common.{◌≡◌, drop}
use Rattle.rv_picture.specs.Letters.{any_at}
use Rattle.rv_picture.proofs.letters.any_at.Given as goal

abbrev pub invariant-loop-bar : goal.invariant-loop-bar
invariant-loop-bar l = any_at l.mark (drop l.bar-index l.bars) l.entry ≡ any_at l.mark l.bars l.entry
