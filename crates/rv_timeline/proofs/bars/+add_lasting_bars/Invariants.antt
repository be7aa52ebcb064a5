use Rattle.std.proofs.Common.{length}
use Rattle.rv_timeline.proofs.bars.+add_lasting_bars.Given as goal

abbrev pub decreases-add_lasting_bars : goal.decreases-add_lasting_bars
decreases-add_lasting_bars l = length l.begun.now
