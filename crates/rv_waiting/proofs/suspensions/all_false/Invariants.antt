use Rattle.std.proofs.Common.{◌≡◌, replicate}
use Rattle.rv_suspend.specs.Suspension.{initially}
use Rattle.rv_waiting.proofs.suspensions.all_false.Given as goal

abbrev pub invariant-loop : goal.invariant-loop
invariant-loop l = l.items.items ≡ replicate l.counter initially
