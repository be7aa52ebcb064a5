use Rattle.std.proofs.Common.{◌∙◌}
use Rattle.rv_waiting.proofs.Queueing.{waits_behind}
use Rattle.rv_waiting.proofs.queues.Queues.waits_behind.Goals as goal

pub returns : goal.returns
returns c = λ history entry line are drops.
    c.has_other.ensures ∙ waits_behind history c.args.self.now c.args.object c.args.caller line entry are drops
