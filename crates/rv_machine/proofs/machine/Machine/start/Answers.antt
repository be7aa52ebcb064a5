use Rattle.rv_machine.specs.Stacks.{below}
use Rattle.rv_machine.proofs.CallSteps.{completing_on, started_past, started_begins}
use Rattle.rv_machine.proofs.machine.Machine.start.Goals as goal

pub returns-then-held-eq0-clause-moves : goal.returns-then-held-eq0-clause-moves
returns-then-held-eq0-clause-moves c = started_past c.args.unit.now c.args.self.now.setting c.args.held c.args.object c.args.number c.args.is_function c.args.values c.args.components (below c.args.unit.now c.args.self.now.stack) c.if-held-eq0.true

pub returns-clause-moves : goal.returns-clause-moves
returns-clause-moves c = started_begins c.args.unit.now c.args.self.now.setting c.of_body-setting.result c.args.held c.args.object c.args.number c.args.is_function c.args.values c.args.components (below c.args.unit.now c.args.self.now.stack) (below c.args.unit.now c.push_completing.new.self) c.begin.new.self c.if-held-eq0.false c.of_body-setting.ensures
    (completing_on c.args.unit.now c.args.self.now.stack c.push_completing.new.self _ _ c.push_completing.ensures.frames c.push_completing.ensures.activations)
    c.begin.ensures.moves
