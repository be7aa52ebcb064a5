use Rattle.std.proofs.Common.{◌≡◌, take, slice_set}
use Rattle.rv_exec.proofs.activation.replaced.Given as goal

abbrev pub invariant-loop-place : goal.invariant-loop-place
invariant-loop-place l = l.changed ≡ take l.place (slice_set l.fn.values l.index l.value)
