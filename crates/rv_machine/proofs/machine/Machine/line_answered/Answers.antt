use Rattle.rv_machine.specs.Stacks.{below}
use Rattle.rv_machine.proofs.CallSteps.{completing_on}
use Rattle.rv_machine.proofs.NextSteps.{line_over, line_begins, starts_not}
use Rattle.rv_machine.proofs.machine.Machine.line_answered.Goals as goal

pub returns-in-Started-clause-answered : goal.returns-in-Started-clause-answered
returns-in-Started-clause-answered c = line_begins c.args.unit.now c.args.object c.args.number c.args.self.now c.begin.new.self c.args.answer c.in-Started.components c.new.result c.of_body-setting.result (below c.args.unit.now c.push_completing.new.self) c.in-Started.is c.new.ensures c.of_body-setting.ensures
    (completing_on c.args.unit.now c.args.self.now.stack c.push_completing.new.self _ _ c.push_completing.ensures.frames c.push_completing.ensures.activations)
    c.begin.ensures.moves

pub returns-in_default-clause-answered : goal.returns-in_default-clause-answered
returns-in_default-clause-answered c = line_over c.args.unit.now c.args.object c.args.number c.args.self.now c.args.answer (starts_not _ c.in_default.not-Started)
