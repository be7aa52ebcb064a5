use Rattle.std.proofs.Common.{◌≡◌, take}
use Rattle.rv_c_host.proofs.asking.fill.Given as goal

abbrev pub invariant-loop-value : goal.invariant-loop-value
invariant-loop-value l = l.given ≡ take l.value-index l.scalars
