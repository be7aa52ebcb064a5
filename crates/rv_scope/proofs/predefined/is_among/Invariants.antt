use Rattle.std.proofs.Common.{◌≡◌, drop}
use Rattle.rv_scope.specs.Predefined.{is_among}
use Rattle.rv_scope.proofs.predefined.is_among.Given as goal

abbrev pub invariant-loop-other : goal.invariant-loop-other
invariant-loop-other l = is_among l.library (drop l.other-index l.libraries) ≡ is_among l.library l.libraries
