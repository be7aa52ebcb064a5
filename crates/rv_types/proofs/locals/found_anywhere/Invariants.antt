use Rattle.std.proofs.Common.{◌≡◌, drop}
use Rattle.rv_types.specs.Points.{local_at}
use Rattle.rv_types.proofs.locals.found_anywhere.Given as goal

abbrev pub invariant-loop-one : goal.invariant-loop-one
invariant-loop-one l = local_at l.at (drop l.one-index l.locals) ≡ local_at l.at l.locals
