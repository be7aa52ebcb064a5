use Rattle.std.proofs.Common.{length}
use Rattle.rv_explained.proofs.bodies.+put_bodies.Given as goal

abbrev pub decreases-put_bodies : goal.decreases-put_bodies
decreases-put_bodies l = length l.bodies.now
