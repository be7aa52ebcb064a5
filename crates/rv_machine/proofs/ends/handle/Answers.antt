use Rattle.std.proofs.Common.{◌∙◌, sym, refl}
use Rattle.rv_machine.proofs.Steps.{restoring_on}
use Rattle.rv_machine.proofs.EndSteps.{not_raised, unhandled, handled}
use Rattle.rv_machine.proofs.ends.handle.Goals as goal

pub returns-in_default-clause-leads : goal.returns-in_default-clause-leads
returns-in_default-clause-leads c = not_raised _ _ _ _ _ (sym c.raised.ensures ∙ c.in_default.is)

pub returns-in_default-handler_of-clause-leads : goal.returns-in_default-handler_of-clause-leads
returns-in_default-handler_of-clause-leads c = unhandled _ _ _ _ _ _ (sym c.raised.ensures ∙ c.in-Some.is) (c.in_default-handler_of.ensures.none refl)

pub returns-clause-leads : goal.returns-clause-leads
returns-clause-leads c = handled _ _ _ _ _ _ _ _ _ (sym c.raised.ensures ∙ c.in-Some.is) c.in-Some-handler_of.ensures.found (restoring_on c.args.unit.now c.args.stack.now c.push_restoring.new.self _ c.push_restoring.ensures.frames c.push_restoring.ensures.activations) refl
