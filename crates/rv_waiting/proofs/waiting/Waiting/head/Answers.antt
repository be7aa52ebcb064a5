use Rattle.std.proofs.Common.{◌∙◌, ℕ, Option, ap, subst, sym}
use Rattle.rv_waiting.specs.Queues.{AreQueues, call_of}
use Rattle.rv_waiting.specs.Waiting.{Kept}
use Rattle.rv_waiting.proofs.Queueing.{head_call}
use Rattle.rv_waiting.proofs.waiting.Waiting.head.Goals as goal

pub returns-clause-call : goal.returns-clause-call
returns-clause-call c = λ h legal is.
    head_call h c.args.object legal
    ∙ ap (λ (q : Option ℕ). call_of q h.past)
    (sym (c.head.ensures h.past (subst (λ (k : Kept). AreQueues h.past k.queues) (sym c.self.view_is) is.queues_are)))
