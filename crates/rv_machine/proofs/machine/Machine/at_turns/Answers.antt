use Rattle.std.proofs.Common.{refl}
use Rattle.rv_machine.proofs.Meetings.{moved, in_each}
use Rattle.rv_machine.specs.declared.point.Point.TheVariants as point
use Rattle.rv_machine.specs.declared.point.Step.TheVariants as step
use Rattle.rv_machine.proofs.machine.Machine.at_turns.Goals as goal

pub returns-clause-moves : goal.returns-clause-moves
returns-clause-moves c = moved c.args.unit.now c.args.self.now (record c.args.self.now { point = point.At c.turn-step.result; stack = c.turn-step.new.stack; activation = c.turn-step.new.activation }) (point.At (step.Turns c.args.turns c.args.condition c.args.statements)) refl (in_each _ _ _ _ _ c.turn-step.ensures.leads)
