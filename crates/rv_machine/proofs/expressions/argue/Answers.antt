use Rattle.std.proofs.Common.{refl}
use Rattle.rv_machine.specs.Stacks.{below}
use Rattle.rv_machine.proofs.AtOnceSteps.{evaluated}
use Rattle.rv_machine.proofs.Composing.{behind}
use Rattle.rv_machine.proofs.Steps.{argument_on}
use Rattle.rv_machine.proofs.ExpressionSteps.{no_argument, argument}
use Rattle.rv_machine.proofs.expressions.argue.Goals as goal

pub returns-in-None-clause-leads : goal.returns-in-None-clause-leads
returns-in-None-clause-leads c = no_argument _ _ _ _ (c.in-None.ensures.none refl)

pub returns-in-Some-value_at_once-clause-leads : goal.returns-in-Some-value_at_once-clause-leads
returns-in-Some-value_at_once-clause-leads c = behind _ _ _ _ _ _ (argument _ _ _ _ _ _ _ c.in-Some.ensures.found refl) (behind _ _ _ _ _ _ (evaluated _ _ _ _ c.in-Some-value_at_once.ensures) (c.argument_comes.ensures (below c.args.unit.now c.args.stack.now)))

pub returns-in-None-value_at_once-clause-leads : goal.returns-in-None-value_at_once-clause-leads
returns-in-None-value_at_once-clause-leads c = argument _ _ _ _ _ _ _ c.in-Some.ensures.found (argument_on c.args.unit.now c.args.stack.now c.push_argument.new.self _ _ c.push_argument.ensures.frames c.push_argument.ensures.activations)
