use Rattle.std.proofs.Common.{ap, refl}
use Rattle.rv_exec.specs.declared.activation.Activation.{Activation}
use Rattle.rv_frames.specs.Frames.{closes}
use Rattle.rv_machine.specs.declared.point.Point.TheVariants as point
use Rattle.rv_machine.proofs.CallSteps.{met_resuming, met_completing, met_exiting}
use Rattle.rv_machine.proofs.Meetings.{passed, takes_no_body}
use Rattle.rv_machine.proofs.machine.Machine.body_meets.Goals as goal

pub returns-in-Resuming-clause-moves : goal.returns-in-Resuming-clause-moves
returns-in-Resuming-clause-moves c = met_resuming c.args.unit.now c.args.self.now.stack c.take_up-caller.new.self c.args.self.now.setting _ _ c.args.outcome c.args.self.now.activation.components c.args.self.now.activation.steps c.take_up-caller.result c.resumed-self.result c.in-Resuming.is c.take_up-caller.ensures.frames c.take_up-caller.ensures.first c.take_up-caller.ensures.rest c.resumed-self.ensures

pub returns-in-Completing-clause-moves : goal.returns-in-Completing-clause-moves
returns-in-Completing-clause-moves c = met_completing c.args.unit.now c.args.self.now.stack c.args.self.now.setting _ _ _ c.args.outcome c.args.self.now.activation.components c.args.self.now.activation.steps _ c.in-Completing.is refl

pub returns-in-Exiting-clause-moves : goal.returns-in-Exiting-clause-moves
returns-in-Exiting-clause-moves c = met_exiting c.args.unit.now c.args.self.now.stack c.args.self.now.setting _ c.args.outcome c.args.self.now.activation.components c.args.self.now.activation.steps _ c.in-Exiting.is c.exit_of.ensures

pub returns-in_default-clause-moves : goal.returns-in_default-clause-moves
returns-in_default-clause-moves c = passed c.args.unit.now (closes c.args.outcome c.args.self.now.activation.components c.args.self.now.activation.steps) (closes c.args.outcome c.pass.new.self.activation.components c.pass.new.self.activation.steps) _ _ (record c.pass.new.self { point = point.Closes c.args.outcome }) refl (ap (λ (x : Activation). closes c.args.outcome x.components x.steps) c.pass.ensures.same) (c.pass.ensures.below (closes c.args.outcome c.args.self.now.activation.components c.args.self.now.activation.steps) (takes_no_body _ c.in_default.not-Resuming c.in_default.not-Completing c.in_default.not-Exiting))
