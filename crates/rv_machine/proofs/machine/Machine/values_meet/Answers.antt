use Rattle.std.proofs.Common.{ap, refl}
use Rattle.rv_exec.specs.declared.activation.Activation.{Activation}
use Rattle.rv_frames.specs.Frames.{listed}
use Rattle.rv_machine.specs.Stacks.{below}
use Rattle.rv_machine.specs.declared.point.Point.TheVariants as point
use Rattle.rv_machine.specs.declared.point.Step.TheVariants as step
use Rattle.rv_machine.proofs.Meetings.{across, met_values, passed, takes_no_values}
use Rattle.rv_machine.proofs.machine.Machine.values_meet.Goals as goal

pub returns-in-Values-clause-moves : goal.returns-in-Values-clause-moves
returns-in-Values-clause-moves c = met_values c.args.unit.now c.args.self.now.stack (record c.args.self.now { point = point.At c.values_come_to-step.result; activation = c.values_come_to-step.new.activation }) (listed c.args.outcome c.args.self.now.activation) c.args.self.now.setting _ _ c.in-Values.is (across _ _ _ _ _ (c.values_come_to-step.ensures (below c.args.unit.now c.args.self.now.stack)))

pub returns-in_default-clause-moves : goal.returns-in_default-clause-moves
returns-in_default-clause-moves c = passed c.args.unit.now (listed c.args.outcome c.args.self.now.activation) (listed c.args.outcome c.pass.new.self.activation) _ _ (record c.pass.new.self { point = point.At (step.Listed c.args.outcome) }) refl (ap (λ (x : Activation). listed c.args.outcome x) c.pass.ensures.same) (c.pass.ensures.below (listed c.args.outcome c.args.self.now.activation) (takes_no_values _ c.in_default.not-Values))
