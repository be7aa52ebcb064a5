use Rattle.std.proofs.Common.{◌≡◌, drop}
use Rattle.rv_types.specs.Coverage.{has_others}
use Rattle.rv_types.proofs.covers.has_others.Given as goal

abbrev pub invariant-loop-one : goal.invariant-loop-one
invariant-loop-one l = has_others l.list.items ≡ has_others (drop l.one-index l.list.items)
