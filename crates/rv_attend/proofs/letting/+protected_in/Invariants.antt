use Rattle.std.proofs.Common.{length}
use Rattle.rv_attend.proofs.letting.+protected_in.Given as goal

abbrev pub decreases-protected_in : goal.decreases-protected_in
decreases-protected_in a = length a.objects.now
