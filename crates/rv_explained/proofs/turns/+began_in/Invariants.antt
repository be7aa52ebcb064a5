use Rattle.std.proofs.Common.{length}
use Rattle.rv_explained.proofs.turns.+began_in.Given as goal

abbrev pub decreases-began_in : goal.decreases-began_in
decreases-began_in l = length l.begun.now
