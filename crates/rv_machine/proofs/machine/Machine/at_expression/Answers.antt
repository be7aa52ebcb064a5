use Rattle.std.proofs.Common.{refl}
use Rattle.rv_machine.proofs.Meetings.{moved, in_each}
use Rattle.rv_machine.specs.declared.point.Point.TheVariants as point
use Rattle.rv_machine.specs.declared.point.Step.TheVariants as step
use Rattle.rv_machine.proofs.machine.Machine.at_expression.Goals as goal

pub returns-clause-moves : goal.returns-clause-moves
returns-clause-moves c = moved c.args.unit.now c.args.self.now (record c.args.self.now { point = point.At c.evaluate-step.result; stack = c.evaluate-step.new.stack }) (point.At (step.Evaluates c.args.number)) refl (in_each _ _ _ _ _ c.evaluate-step.ensures.leads)
