use Rattle.std.proofs.Common.{◌≡◌, take}
use Rattle.rv_value.proofs.bounded.Bounded.from_slice.Given as goal

abbrev pub invariant-loop-value : goal.invariant-loop-value
invariant-loop-value g l = l.list ≡ take l.value-index l.values
