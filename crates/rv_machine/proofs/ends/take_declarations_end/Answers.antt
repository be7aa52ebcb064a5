use Rattle.std.proofs.Common.{◌∙◌, sym}
use Rattle.rv_machine.proofs.EndSteps.{body_opens, body_stops}
use Rattle.rv_machine.proofs.Steps.{handling_on}
use Rattle.rv_machine.proofs.ends.take_declarations_end.Goals as goal

pub returns-then-not-is_next-clause-leads : goal.returns-then-not-is_next-clause-leads
returns-then-not-is_next-clause-leads c = body_stops _ _ _ _ _ (sym c.is_next.ensures ∙ c.if-not-is_next.true)

pub returns-clause-leads : goal.returns-clause-leads
returns-clause-leads c = body_opens _ _ _ _ _ _ (sym c.is_next.ensures ∙ c.if-not-is_next.false) (handling_on c.args.unit.now c.args.stack.now c.push_handling.new.self _ c.push_handling.ensures.frames c.push_handling.ensures.activations)
