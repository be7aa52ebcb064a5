use Rattle.std.proofs.Common.{refl}
use Rattle.rv_machine.proofs.Meetings.{moved}
use Rattle.rv_machine.specs.declared.point.Point.TheVariants as point
use Rattle.rv_machine.specs.declared.point.Step.TheVariants as step
use Rattle.rv_machine.proofs.machine.Machine.at_statement.Goals as goal

pub returns-clause-moves : goal.returns-clause-moves
returns-clause-moves c = moved c.args.unit.now c.args.self.now (record c.args.self.now { point = point.At c.run-step.result; stack = c.run-step.new.stack; activation = c.run-step.new.activation }) (point.At (step.Runs c.args.number)) refl c.run-step.ensures.leads
