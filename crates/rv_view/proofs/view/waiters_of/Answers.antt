use Rattle.std.proofs.Common.{◌+◌, arith}
use Rattle.rv_event.specs.Past.{waiter}
use Rattle.rv_view.proofs.Showing.{pushed_more}
use Rattle.rv_view.proofs.view.waiters_of.Goals as goal

pub loop-number-preserved : goal.loop-number-preserved
loop-number-preserved c =
    pushed_more (λ object. waiter object c.args.host.now.past) 1 c.loop-number.number (c.loop-number.number + 1) _ _ _ (omega arith)
    c.in_ok-push.ensures.items c.loop-number.invariant c.waiter.ensures
