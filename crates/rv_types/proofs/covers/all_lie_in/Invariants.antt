use Rattle.std.proofs.Common.{◌≡◌, drop}
use Rattle.rv_types.specs.Coverage.{all_lie_in}
use Rattle.rv_types.proofs.covers.all_lie_in.Given as goal

abbrev pub invariant-loop-one : goal.invariant-loop-one
invariant-loop-one l = all_lie_in l.range l.list.items ≡ all_lie_in l.range (drop l.one-index l.list.items)
