use Rattle.std.proofs.Common.{refl}
use Rattle.rv_frames.specs.Frames.{outside}
use Rattle.rv_machine.specs.declared.point.Point.TheVariants as point
use Rattle.rv_machine.proofs.CallSteps.{met_answering}
use Rattle.rv_machine.proofs.Meetings.{passed, takes_no_call}
use Rattle.rv_machine.proofs.machine.Machine.call_meets.Goals as goal

pub returns-in-Answering-clause-moves : goal.returns-in-Answering-clause-moves
returns-in-Answering-clause-moves c = met_answering c.args.unit.now c.args.self.now.stack c.take_up-self.new.self c.args.self.now.setting _ c.args.outcome c.take_up-self.result c.refill.new.self c.in-Answering.is c.take_up-self.ensures.frames c.take_up-self.ensures.first c.take_up-self.ensures.rest c.refill.ensures

pub returns-in_default-clause-moves : goal.returns-in_default-clause-moves
returns-in_default-clause-moves c = passed c.args.unit.now (outside c.args.outcome) (outside c.args.outcome) _ _ (record c.pass.new.self { point = point.Outside c.args.outcome }) refl refl (c.pass.ensures.below (outside c.args.outcome) (takes_no_call _ c.in_default.not-Answering))
