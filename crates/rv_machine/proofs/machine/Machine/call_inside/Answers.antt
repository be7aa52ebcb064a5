use Rattle.rv_machine.specs.Stacks.{below}
use Rattle.rv_machine.proofs.CallSteps.{resuming_on, inside_called}
use Rattle.rv_machine.proofs.machine.Machine.call_inside.Goals as goal

pub returns-clause-moves : goal.returns-clause-moves
returns-clause-moves c = inside_called c.args.unit.now c.args.self.now.setting c.args.number c.args.values c.args.self.now.activation (below c.args.unit.now c.args.self.now.stack) (below c.args.unit.now c.push_resuming.new.self) c.begin.new.self
    (resuming_on c.args.unit.now c.args.self.now.stack c.set_aside.new.self c.push_resuming.new.self c.args.self.now.setting c.copy_of.result c.args.self.now.activation c.set_aside.ensures.frames c.set_aside.ensures.activations c.copy_of.ensures c.push_resuming.ensures.frames c.push_resuming.ensures.activations)
    c.begin.ensures.moves
