use Rattle.std.proofs.Common.{refl}
use Rattle.rv_machine.proofs.Meetings.{moved, in_each}
use Rattle.rv_machine.specs.declared.point.Point.TheVariants as point
use Rattle.rv_machine.specs.declared.point.Step.TheVariants as step
use Rattle.rv_machine.proofs.machine.Machine.at_branches.Goals as goal

pub returns-clause-moves : goal.returns-clause-moves
returns-clause-moves c = moved c.args.unit.now c.args.self.now (record c.args.self.now { point = point.At c.try_branches-step.result; stack = c.try_branches-step.new.stack; activation = c.try_branches-step.new.activation }) (point.At (step.Tries c.args.branches c.args.otherwise)) refl (in_each _ _ _ _ _ c.try_branches-step.ensures.leads)
