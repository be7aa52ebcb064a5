use Rattle.std.proofs.Common.{length}
use Rattle.rv_explained.proofs.refusals.+put_actors.Given as goal

abbrev pub decreases-put_actors : goal.decreases-put_actors
decreases-put_actors l = length l.actors.now
