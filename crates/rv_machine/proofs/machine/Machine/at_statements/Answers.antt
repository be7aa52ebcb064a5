use Rattle.std.proofs.Common.{refl}
use Rattle.rv_machine.proofs.Meetings.{moved}
use Rattle.rv_machine.specs.declared.point.Point.TheVariants as point
use Rattle.rv_machine.specs.declared.point.Step.TheVariants as step
use Rattle.rv_machine.proofs.machine.Machine.at_statements.Goals as goal

pub returns-clause-moves : goal.returns-clause-moves
returns-clause-moves c = moved c.args.unit.now c.args.self.now (record c.args.self.now { point = point.At c.run_all-step.result; stack = c.run_all-step.new.stack; activation = c.run_all-step.new.activation }) (point.At (step.RunsAll c.args.statements)) refl c.run_all-step.ensures.leads
