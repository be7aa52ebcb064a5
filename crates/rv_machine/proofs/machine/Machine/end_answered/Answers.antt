use Rattle.rv_machine.proofs.NextSteps.{end_over}
use Rattle.rv_machine.proofs.machine.Machine.end_answered.Goals as goal

pub returns-clause-answered : goal.returns-clause-answered
returns-clause-answered c = end_over c.args.unit.now c.args.is_function c.args.outcome c.args.self.now c.args.answer _ c.requires c.completed.ensures
