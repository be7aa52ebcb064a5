use Rattle.rv_machine.proofs.Meetings.{pass_restoring, pass_resuming, pass_answering, pass_completing, pass_plain}
use Rattle.rv_machine.proofs.machine.Machine.pass.Goals as goal

pub returns-in-Restoring-clause-below : goal.returns-in-Restoring-clause-below
returns-in-Restoring-clause-below c = λ now is. pass_restoring c.args.unit.now c.args.self.now.stack now c.args.self.now.setting _ _ c.in-Restoring.is

pub returns-in-Resuming-clause-below : goal.returns-in-Resuming-clause-below
returns-in-Resuming-clause-below c = λ now is. pass_resuming c.args.unit.now c.args.self.now.stack c.take_up.new.self now c.args.self.now.setting _ _ c.in-Resuming.is c.take_up.ensures.frames c.take_up.ensures.rest is

pub returns-in-Answering-clause-below : goal.returns-in-Answering-clause-below
returns-in-Answering-clause-below c = λ now is. pass_answering c.args.unit.now c.args.self.now.stack c.take_up-in-Answering.new.self now c.args.self.now.setting _ c.in-Answering.is c.take_up-in-Answering.ensures.frames c.take_up-in-Answering.ensures.rest is

pub returns-in-Completing-clause-below : goal.returns-in-Completing-clause-below
returns-in-Completing-clause-below c = λ now is. pass_completing c.args.unit.now c.args.self.now.stack now c.args.self.now.setting _ _ _ c.in-Completing.is is

pub returns-in_default-clause-below : goal.returns-in_default-clause-below
returns-in_default-clause-below c = λ now is. pass_plain c.args.unit.now c.args.self.now.stack now c.args.self.now.setting _ c.in_default.not-Restoring c.in_default.not-Resuming c.in_default.not-Answering c.in_default.not-Completing is
