use Rattle.rv_machine.proofs.NextSteps.{task_end_over}
use Rattle.rv_machine.proofs.machine.Machine.task_end_answered.Goals as goal

pub returns-clause-answered : goal.returns-clause-answered
returns-clause-answered c = task_end_over c.args.unit.now c.args.outcome c.args.self.now c.args.answer _ c.requires c.exit_of.ensures
