use Rattle.std.proofs.Common.{length}
use Rattle.rv_attend.proofs.letting.+have_handler.Given as goal

abbrev pub decreases-have_handler : goal.decreases-have_handler
decreases-have_handler a = length a.operations.now
