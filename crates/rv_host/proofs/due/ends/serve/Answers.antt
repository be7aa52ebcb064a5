use Rattle.std.proofs.Common.{◌∙◌, sym, true, false}
use Rattle.rv_host.specs.Seen.{history_of}
use Rattle.rv_host.proofs.Serving.{head_served}
use Rattle.rv_host.proofs.due.ends.serve.Goals as goal

pub returns-then-granted : goal.returns-then-granted
returns-then-granted c calls head =
    head_served (history_of c.args.seen.now) c.in-Some.call _ true c.decide_call-granted.result.1 calls (sym head ∙ c.in-Some.is) c.callee-callee.ensures
    (sym c.if-granted.true ∙ c.decide_call-granted.ensures.granted) c.decide_call-granted.ensures.line

pub returns-else-granted : goal.returns-else-granted
returns-else-granted c calls head =
    head_served (history_of c.args.seen.now) c.in-Some.call _ false c.decide_call-granted.result.1 calls (sym head ∙ c.in-Some.is) c.callee-callee.ensures
    (sym c.if-granted.false ∙ c.decide_call-granted.ensures.granted) c.decide_call-granted.ensures.line
