use Rattle.std.proofs.Common.{◌≡◌, replicate}
use Rattle.rv_present.specs.Holdings.{idle}
use Rattle.rv_present.proofs.objects.Objects.new.Given as goal

abbrev pub invariant-loop-i : goal.invariant-loop-i
invariant-loop-i l = l.items.items ≡ replicate l.i idle
