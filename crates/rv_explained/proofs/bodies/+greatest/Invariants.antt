use Rattle.std.proofs.Common.{length}
use Rattle.rv_explained.proofs.bodies.+greatest.Given as goal

abbrev pub decreases-greatest : goal.decreases-greatest
decreases-greatest l = length l.bodies.now
