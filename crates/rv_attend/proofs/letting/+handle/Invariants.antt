use Rattle.std.proofs.Common.{length}
use Rattle.rv_attend.proofs.letting.+handle.Given as goal

abbrev pub decreases-handle : goal.decreases-handle
decreases-handle a = length a.objects.now
