use Rattle.std.proofs.Common.{◌≡◌, [], replicate}
use Rattle.rv_waiting.proofs.queues.all_empty.Given as goal

abbrev pub invariant-loop : goal.invariant-loop
invariant-loop l = l.items.items ≡ replicate l.counter []
