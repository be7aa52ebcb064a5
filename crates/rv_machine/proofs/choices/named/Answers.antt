use Rattle.std.proofs.Common.{◌∙◌, sym, refl}
use Rattle.rv_machine.proofs.ChoiceSteps.{shorter, names_here, names_on, names_none}
use Rattle.rv_machine.proofs.choices.named.Goals as goal

pub choices-init : goal.choices-init
choices-init c = refl

pub returns-then-names : goal.returns-then-names
returns-then-names c = sym (sym c.choices.invariant ∙ names_here _ _ _ _ c.in-Some.ensures.found (sym c.names.ensures ∙ c.if-names.true))

pub choices-smaller : goal.choices-smaller
choices-smaller c = shorter _ _ _ c.in-Some.ensures.found

pub choices-preserved : goal.choices-preserved
choices-preserved c = sym (names_on _ _ _ _ c.in-Some.ensures.found (sym c.names.ensures ∙ c.if-names.false)) ∙ c.choices.invariant

pub returns : goal.returns
returns c = sym (sym c.choices.invariant ∙ names_none _ _ (c.in_default.ensures.none refl))
