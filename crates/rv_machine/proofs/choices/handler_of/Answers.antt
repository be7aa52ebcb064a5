use Rattle.std.proofs.Common.{◌∙◌, sym, refl}
use Rattle.rv_machine.proofs.ChoiceSteps.{shorter, handler_here, handler_on, handler_none}
use Rattle.rv_machine.proofs.choices.handler_of.Goals as goal

pub handlers-init : goal.handlers-init
handlers-init c = refl

pub returns-then-named-clause-found : goal.returns-then-named-clause-found
returns-then-named-clause-found c = sym c.handlers.invariant ∙ handler_here _ _ _ _ c.in-Some.ensures.found (sym c.named.ensures ∙ c.if-named.true)

pub handlers-smaller : goal.handlers-smaller
handlers-smaller c = shorter _ _ _ c.in-Some.ensures.found

pub handlers-preserved : goal.handlers-preserved
handlers-preserved c = sym (handler_on _ _ _ _ c.in-Some.ensures.found (sym c.named.ensures ∙ c.if-named.false)) ∙ c.handlers.invariant

pub returns-clause-none : goal.returns-clause-none
returns-clause-none c = λ is. sym c.handlers.invariant ∙ handler_none _ _ (c.in_default.ensures.none refl)
