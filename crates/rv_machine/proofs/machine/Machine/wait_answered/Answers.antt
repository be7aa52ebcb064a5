use Rattle.rv_flat.specs.Tables.{trees}
use Rattle.rv_machine.proofs.NextSteps.{wait_over}
use Rattle.rv_machine.proofs.machine.Machine.wait_answered.Goals as goal

pub returns-clause-answered : goal.returns-clause-answered
returns-clause-answered c = wait_over c.args.unit.now c.args.callee c.args.self.now c.reach.new.self c.args.answer _ c.resumed.ensures (c.reach.ensures.reaches (trees c.args.unit.now.code)) c.reach.ensures.stack c.reach.ensures.setting
