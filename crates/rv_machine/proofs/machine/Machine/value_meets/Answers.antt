use Rattle.std.proofs.Common.{ap, refl}
use Rattle.rv_exec.specs.declared.activation.Activation.{Activation}
use Rattle.rv_frames.specs.Frames.{valued}
use Rattle.rv_machine.specs.Stacks.{below}
use Rattle.rv_machine.specs.declared.point.Point.TheVariants as point
use Rattle.rv_machine.specs.declared.point.Step.TheVariants as step
use Rattle.rv_machine.proofs.Meetings.{across, met_operand, met_argument, met_value, passed, takes_no_value}
use Rattle.rv_machine.proofs.machine.Machine.value_meets.Goals as goal

pub returns-in-Operand-clause-moves : goal.returns-in-Operand-clause-moves
returns-in-Operand-clause-moves c = met_operand c.args.unit.now c.args.self.now.stack (record c.args.self.now { point = point.At c.operand_comes-step.result }) (valued c.args.value c.args.self.now.activation) c.args.self.now.setting _ _ c.in-Operand.is (across _ _ _ _ _ (c.operand_comes-step.ensures (below c.args.unit.now c.args.self.now.stack)))

pub returns-in-Arguing-clause-moves : goal.returns-in-Arguing-clause-moves
returns-in-Arguing-clause-moves c = met_argument c.args.unit.now c.args.self.now.stack (record c.args.self.now { point = point.At c.argument_comes-step.result }) (valued c.args.value c.args.self.now.activation) c.args.self.now.setting _ _ _ c.in-Arguing.is (across _ _ _ _ _ (c.argument_comes-step.ensures (below c.args.unit.now c.args.self.now.stack)))

pub returns-in-Value-clause-moves : goal.returns-in-Value-clause-moves
returns-in-Value-clause-moves c = met_value c.args.unit.now c.args.self.now.stack (record c.args.self.now { point = point.At c.part_comes-step.result; activation = c.part_comes-step.new.activation; stack = c.part_comes-step.new.stack }) (valued c.args.value c.args.self.now.activation) c.args.self.now.setting _ _ c.in-Value.is (across _ _ _ _ _ c.part_comes-step.ensures.leads)

pub returns-in_default-clause-moves : goal.returns-in_default-clause-moves
returns-in_default-clause-moves c = passed c.args.unit.now (valued c.args.value c.args.self.now.activation) (valued c.args.value c.pass.new.self.activation) _ _ (record c.pass.new.self { point = point.At (step.Valued c.args.value) }) refl (ap (λ (x : Activation). valued c.args.value x) c.pass.ensures.same) (c.pass.ensures.below (valued c.args.value c.args.self.now.activation) (takes_no_value _ c.in_default.not-Operand c.in_default.not-Arguing c.in_default.not-Value))
