use Rattle.rv_machine.proofs.Meetings.{over_passed}
use Rattle.rv_machine.proofs.machine.Machine.over_meets.Goals as goal

pub returns-clause-moves : goal.returns-clause-moves
returns-clause-moves c = over_passed c.args.unit.now c.args.self.now.activation c.args.self.now.stack c.args.self.now.setting c.args.frame c.args.self.now.point c.pass.new.self c.pass.ensures.point c.pass.ensures.same c.requires c.pass.ensures.below
