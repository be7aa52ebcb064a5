use Rattle.std.proofs.Common.{length}
use Rattle.rv_crew.proofs.abandoning.+part.Given as goal

abbrev pub decreases-part : goal.decreases-part
decreases-part g l = length l.threads.items
