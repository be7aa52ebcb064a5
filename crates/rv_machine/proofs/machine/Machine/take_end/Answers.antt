use Rattle.std.proofs.Common.{refl}
use Rattle.rv_machine.specs.declared.point.Point.TheVariants as point
use Rattle.rv_machine.proofs.Meetings.{in_each, led}
use Rattle.rv_machine.proofs.Steps.{at_end_in}
use Rattle.rv_machine.proofs.EndSteps.{body_closes, task_quits}
use Rattle.rv_machine.proofs.machine.Machine.take_end.Goals as goal

pub returns-in-Turning-clause-moves : goal.returns-in-Turning-clause-moves
returns-in-Turning-clause-moves c = led c.args.unit.now c.args.self.now (record c.args.self.now { point = point.At c.take_turn_end-step.result; stack = c.take_turn_end-step.new.stack; activation = c.take_turn_end-step.new.activation }) _ _ refl
    (at_end_in c.args.self.now.setting c.args.unit.now _ _ _ _ _ _ c.in-Turning.is (in_each _ _ _ _ _ c.take_turn_end-step.ensures.leads))

pub returns-in-Sequencing-clause-moves : goal.returns-in-Sequencing-clause-moves
returns-in-Sequencing-clause-moves c = led c.args.unit.now c.args.self.now (record c.args.self.now { point = point.At c.take_statement_end-step.result; stack = c.take_statement_end-step.new.stack; activation = c.take_statement_end-step.new.activation }) _ _ refl
    (at_end_in c.args.self.now.setting c.args.unit.now _ _ _ _ _ _ c.in-Sequencing.is c.take_statement_end-step.ensures.leads)

pub returns-in-Opening-clause-moves : goal.returns-in-Opening-clause-moves
returns-in-Opening-clause-moves c = led c.args.unit.now c.args.self.now (record c.args.self.now { point = point.At c.take_declarations_end-step.result; stack = c.take_declarations_end-step.new.stack }) _ _ refl
    (at_end_in c.args.self.now.setting c.args.unit.now _ _ _ _ _ _ c.in-Opening.is (in_each _ _ _ _ _ c.take_declarations_end-step.ensures.leads))

pub returns-in-Closing-clause-moves : goal.returns-in-Closing-clause-moves
returns-in-Closing-clause-moves c = led c.args.unit.now c.args.self.now (record c.args.self.now { point = point.Closes c.operation_outcome-outcome.result }) _ _ refl
    (at_end_in c.args.self.now.setting c.args.unit.now _ _ _ _ _ _ c.in-Closing.is (in_each _ _ _ _ _ (body_closes _ _ _ _ _ c.operation_outcome-outcome.ensures)))

pub returns-in-Quitting-clause-moves : goal.returns-in-Quitting-clause-moves
returns-in-Quitting-clause-moves c = led c.args.unit.now c.args.self.now (record c.args.self.now { point = point.Quits c.task_outcome-outcome.result }) _ _ refl
    (at_end_in c.args.self.now.setting c.args.unit.now _ _ _ _ _ _ c.in-Quitting.is (in_each _ _ _ _ _ (task_quits _ _ _ _ _ c.task_outcome-outcome.ensures)))
