use Rattle.std.proofs.Common.{refl}
use Rattle.rv_frames.specs.Frames.{reaches}
use Rattle.rv_machine.specs.Points.{given_by}
use Rattle.rv_machine.specs.declared.point.Point.TheVariants as point
use Rattle.rv_machine.proofs.CallSteps.{met_given}
use Rattle.rv_machine.proofs.Meetings.{passed, takes_no_request}
use Rattle.rv_machine.proofs.machine.Machine.request_meets.Goals as goal

pub returns-in-Performing-clause-moves : goal.returns-in-Performing-clause-moves
returns-in-Performing-clause-moves c = met_given c.args.unit.now c.args.self.now.stack c.args.self.now.setting _ c.args.outcome _ _ c.in-Performing.is

pub returns-in_default-clause-moves : goal.returns-in_default-clause-moves
returns-in_default-clause-moves c = passed c.args.unit.now (reaches (given_by c.args.outcome)) (reaches (given_by c.args.outcome)) _ _ (record c.pass.new.self { point = point.Reaches c.args.outcome }) refl refl (c.pass.ensures.below (reaches (given_by c.args.outcome)) (takes_no_request _ c.in_default.not-Performing))
