use Rattle.std.proofs.Common.{[], List, ℕ, subst, sym}
use Rattle.rv_waiting.specs.Queues.{AreQueues}
use Rattle.rv_waiting.proofs.Queueing.{fresh_are}
use Rattle.rv_waiting.proofs.queues.Queues.new.Goals as goal

pub returns : goal.returns
returns c = subst (λ (qs : List (List ℕ)). AreQueues [] qs) (sym c.in_ok-items.ensures) fresh_are
