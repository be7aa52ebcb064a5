use Rattle.std.proofs.Common.{length}
use Rattle.rv_waits.proofs.told.+put_all_lasting.Given as goal

abbrev pub decreases-put_all_lasting : goal.decreases-put_all_lasting
decreases-put_all_lasting l = length l.begun.now
