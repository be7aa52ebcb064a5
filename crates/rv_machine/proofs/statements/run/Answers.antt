use Rattle.std.proofs.Common.{arith, refl}
use Rattle.rv_machine.proofs.MovesLeft.{turns_fit}
use Rattle.rv_machine.proofs.Composing.{behind_in, behind_kept_in}
use Rattle.rv_machine.proofs.Steps.{value_on, values_on}
use Rattle.rv_machine.proofs.StatementSteps.{null_ends, assigns, chooses, selects, loops, loops_over, exits, returns_none, returns_one, raises, reraises, calls_of}
use Rattle.rv_machine.proofs.statements.run.Goals as goal

pub returns-in-Null-clause-leads : goal.returns-in-Null-clause-leads
returns-in-Null-clause-leads c = null_ends _ _ _ _ c.in-Null.ensures

pub returns-in-Assign-clause-leads : goal.returns-in-Assign-clause-leads
returns-in-Assign-clause-leads c = assigns _ _ _ _ _ _ _ c.in-Assign.ensures (value_on c.args.unit.now c.args.stack.now c.push_value.new.self _ c.push_value.ensures.frames c.push_value.ensures.activations)

pub returns-in-If-clause-leads : goal.returns-in-If-clause-leads
returns-in-If-clause-leads c = behind_in _ _ _ _ _ _ _ (chooses _ _ _ _ _ _ c.in-If.ensures) c.try_branches.ensures.leads

pub returns-in-Case-clause-leads : goal.returns-in-Case-clause-leads
returns-in-Case-clause-leads c = behind_kept_in _ _ _ _ _ _ _ (selects _ _ _ _ _ _ _ c.in-Case.ensures refl) c.await_value.ensures.keeps

pub returns-in-While-clause-leads : goal.returns-in-While-clause-leads
returns-in-While-clause-leads c = behind_in _ _ _ _ _ _ _ (loops _ _ _ _ _ _ _ c.in-While.ensures c.most_turns-turns.ensures (turns_fit _ (omega arith))) c.turn.ensures.leads

pub returns-in-For-clause-leads : goal.returns-in-For-clause-leads
returns-in-For-clause-leads c = behind_kept_in _ _ _ _ _ _ _ (loops_over _ _ _ _ _ _ _ _ _ _ _ c.in-For.ensures refl) c.await_value-in-For.ensures.keeps

pub returns-in-ExitWhen-clause-leads : goal.returns-in-ExitWhen-clause-leads
returns-in-ExitWhen-clause-leads c = exits _ _ _ _ _ _ c.in-ExitWhen.ensures (value_on c.args.unit.now c.args.stack.now c.push_value-in-ExitWhen.new.self _ c.push_value-in-ExitWhen.ensures.frames c.push_value-in-ExitWhen.ensures.activations)

pub returns-in-Return-clause-leads : goal.returns-in-Return-clause-leads
returns-in-Return-clause-leads c = returns_none _ _ _ _ c.in-Return.ensures

pub returns-in-ReturnValue-clause-leads : goal.returns-in-ReturnValue-clause-leads
returns-in-ReturnValue-clause-leads c = returns_one _ _ _ _ _ _ c.in-ReturnValue.ensures (value_on c.args.unit.now c.args.stack.now c.push_value-in-ReturnValue.new.self _ c.push_value-in-ReturnValue.ensures.frames c.push_value-in-ReturnValue.ensures.activations)

pub returns-in-Raise-clause-leads : goal.returns-in-Raise-clause-leads
returns-in-Raise-clause-leads c = raises _ _ _ _ _ c.in-Raise.ensures

pub returns-in-Reraise-clause-leads : goal.returns-in-Reraise-clause-leads
returns-in-Reraise-clause-leads c = reraises _ _ _ _ _ c.in-Reraise.ensures c.raised_again.ensures

pub returns-in-Call-clause-leads : goal.returns-in-Call-clause-leads
returns-in-Call-clause-leads c = calls_of _ _ _ _ _ _ _ _ _ _ c.in-Call.ensures c.new.ensures (values_on c.args.unit.now c.args.stack.now c.push_values.new.self _ c.push_values.ensures.frames c.push_values.ensures.activations) (values_on c.args.unit.now c.push_values.new.self c.push_values-in-Call.new.self _ c.push_values-in-Call.ensures.frames c.push_values-in-Call.ensures.activations)
