use Rattle.rv_machine.proofs.NextSteps.{task_end_unasked}
use Rattle.rv_machine.proofs.machine.Machine.at_task_end.Goals as goal

pub returns-clause-moves : goal.returns-clause-moves
returns-clause-moves c = task_end_unasked c.args.unit.now c.args.self.now.setting c.args.outcome c.args.self.now.activation _ _ c.requires c.exit_of.ensures
