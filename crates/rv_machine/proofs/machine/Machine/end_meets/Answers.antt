use Rattle.std.proofs.Common.{ap, refl}
use Rattle.rv_exec.specs.declared.activation.Activation.{Activation}
use Rattle.rv_frames.specs.Frames.{done}
use Rattle.rv_machine.specs.declared.point.Point.TheVariants as point
use Rattle.rv_machine.specs.declared.point.Step.TheVariants as step
use Rattle.rv_machine.proofs.Meetings.{across, met_end, met_count, met_handling, passed, takes_no_end}
use Rattle.rv_machine.proofs.machine.Machine.end_meets.Goals as goal

pub returns-in-End-clause-moves : goal.returns-in-End-clause-moves
returns-in-End-clause-moves c = met_end c.args.unit.now c.args.self.now.stack c.take_end.new.self (done c.args.end c.args.self.now.activation) c.args.self.now.setting _ _ c.in-End.is c.take_end.ensures.moves

pub returns-in-Counting-clause-moves : goal.returns-in-Counting-clause-moves
returns-in-Counting-clause-moves c = met_count c.args.unit.now c.args.self.now.stack (record c.args.self.now { point = point.At c.take_count_end-step.result; stack = c.take_count_end-step.new.stack; activation = c.take_count_end-step.new.activation }) (done c.args.end c.args.self.now.activation) c.args.self.now.setting _ _ _ c.in-Counting.is (across _ _ _ _ _ c.take_count_end-step.ensures.leads)

pub returns-in-Handling-clause-moves : goal.returns-in-Handling-clause-moves
returns-in-Handling-clause-moves c = met_handling c.args.unit.now c.args.self.now.stack (record c.args.self.now { point = point.At c.handle-step.result; setting = c.handle-step.new.setting; stack = c.handle-step.new.stack }) (done c.args.end c.args.self.now.activation) c.args.self.now.setting _ _ c.in-Handling.is c.handle-step.ensures.leads

pub returns-in_default-clause-moves : goal.returns-in_default-clause-moves
returns-in_default-clause-moves c = passed c.args.unit.now (done c.args.end c.args.self.now.activation) (done c.args.end c.pass.new.self.activation) _ _ (record c.pass.new.self { point = point.At (step.Done c.args.end) }) refl (ap (λ (x : Activation). done c.args.end x) c.pass.ensures.same) (c.pass.ensures.below (done c.args.end c.args.self.now.activation) (takes_no_end _ c.in_default.not-End c.in_default.not-Counting c.in_default.not-Handling))
