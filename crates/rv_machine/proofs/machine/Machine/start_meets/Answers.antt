use Rattle.std.proofs.Common.{ap, refl}
use Rattle.rv_exec.specs.declared.activation.Activation.{Activation}
use Rattle.rv_exec.specs.declared.end.Asked.TheVariants as asked
use Rattle.rv_frames.specs.Frames.{reaches}
use Rattle.rv_machine.specs.declared.point.Point.TheVariants as point
use Rattle.rv_machine.proofs.CallSteps.{met_performing}
use Rattle.rv_machine.proofs.Meetings.{passed, takes_no_request}
use Rattle.rv_machine.proofs.machine.Machine.start_meets.Goals as goal

pub returns-in-Performing-clause-moves : goal.returns-in-Performing-clause-moves
returns-in-Performing-clause-moves c = met_performing c.args.unit.now c.args.self.now.stack c.args.self.now.setting _ (asked.Started c.args.object c.args.number c.args.is_function c.args.self.now.activation.components) _ _ c.start.new.self c.in-Performing.is c.start.ensures.moves

pub returns-in_default-clause-moves : goal.returns-in_default-clause-moves
returns-in_default-clause-moves c = passed c.args.unit.now (reaches (asked.Started c.args.object c.args.number c.args.is_function c.args.self.now.activation.components)) (reaches (asked.Started c.args.object c.args.number c.args.is_function c.pass.new.self.activation.components)) _ _ (record c.pass.new.self { point = point.Starts c.args.object c.args.number c.args.is_function }) refl
    (ap (λ (x : Activation). reaches (asked.Started c.args.object c.args.number c.args.is_function x.components)) c.pass.ensures.same)
    (c.pass.ensures.below (reaches (asked.Started c.args.object c.args.number c.args.is_function c.args.self.now.activation.components)) (takes_no_request _ c.in_default.not-Performing))
