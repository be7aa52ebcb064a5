use Rattle.std.proofs.Common.{◌≡◌, drop}
use Rattle.rv_ranged.specs.Ranged.{parameters_fit}
use Rattle.rv_ranged.proofs.operation.parameters_fit.Given as goal

abbrev pub invariant-loop-own : goal.invariant-loop-own
invariant-loop-own l = parameters_fit (drop l.own-index l.owns) l.left ≡ parameters_fit l.owns l.initial.left
