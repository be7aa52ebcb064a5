use Rattle.std.proofs.Common.{◌∙◌, ◌+◌, arith}
use Rattle.rv_waiting.specs.Queues.{callers}
use Rattle.rv_view.proofs.Showing.{pushed_more}
use Rattle.rv_view.proofs.view.queues_of.Goals as goal

pub loop-number-preserved : goal.loop-number-preserved
loop-number-preserved c =
    pushed_more (λ object. callers object c.args.host.now.past) 1 c.loop-number.number (c.loop-number.number + 1) _ _ _ (omega arith)
    c.in_ok-push.ensures.items c.loop-number.invariant (c.in_ok-callers.ensures.items ∙ c.callers.ensures)
