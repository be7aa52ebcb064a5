use Rattle.rv_machine.proofs.NextSteps.{end_unasked}
use Rattle.rv_machine.proofs.machine.Machine.at_end.Goals as goal

pub returns-clause-moves : goal.returns-clause-moves
returns-clause-moves c = end_unasked c.args.unit.now c.args.self.now.setting c.args.is_function c.args.outcome c.args.self.now.activation _ c.requires
