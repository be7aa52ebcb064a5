use Rattle.std.proofs.Common.{◌≡◌, map}
use Rattle.std.specs.List.{range_with_len}
use Rattle.rv_event.specs.Past.{waiter}
use Rattle.rv_view.proofs.view.waiters_of.Given as goal

abbrev pub invariant-loop-number : goal.invariant-loop-number
invariant-loop-number l = l.waiters.items ≡ map (λ object. waiter object l.host.past) (range_with_len 1 l.number)
