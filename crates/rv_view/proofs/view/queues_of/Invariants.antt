use Rattle.std.proofs.Common.{◌≡◌, map}
use Rattle.std.specs.List.{range_with_len}
use Rattle.rv_waiting.specs.Queues.{callers}
use Rattle.rv_view.proofs.view.queues_of.Given as goal

abbrev pub invariant-loop-number : goal.invariant-loop-number
invariant-loop-number l = l.queues.items ≡ map (λ object. callers object l.host.past) (range_with_len 1 l.number)
