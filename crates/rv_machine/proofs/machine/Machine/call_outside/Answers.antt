use Rattle.std.proofs.Common.{refl, sym, ◌∙◌}
use Rattle.rv_machine.specs.Stacks.{below}
use Rattle.rv_machine.proofs.CallSteps.{answering_on, performing_on, call_unasked, call_past, call_asks}
use Rattle.rv_machine.proofs.machine.Machine.call_outside.Goals as goal

pub returns-then-not-spend-clause-moves : goal.returns-then-not-spend-clause-moves
returns-then-not-spend-clause-moves c = call_unasked c.args.unit.now c.args.self.now.setting c.args.callee c.args.values c.args.self.now.activation _ (below c.args.unit.now c.args.self.now.stack) c.requires.other (c.if-not-spend.ensures.no refl) (c.if-not-spend.ensures.same refl)

pub returns-then-is_past-clause-moves : goal.returns-then-is_past-clause-moves
returns-then-is_past-clause-moves c = call_past c.args.unit.now c.args.self.now.setting c.args.callee _ c.args.values c.args.self.now.activation _ (below c.args.unit.now c.args.self.now.stack) (below c.args.unit.now c.push_answering.new.self) c.requires.other (c.if-not-spend.ensures.yes refl) c.of_object-at.ensures (sym c.is_past.ensures ∙ c.if-is_past.true)
    (answering_on c.args.unit.now c.args.self.now.stack c.set_aside.new.self c.push_answering.new.self c.copy_of.result _ c.set_aside.ensures.frames c.set_aside.ensures.activations c.copy_of.ensures c.push_answering.ensures.frames c.push_answering.ensures.activations)

pub returns-clause-moves : goal.returns-clause-moves
returns-clause-moves c = call_asks c.args.unit.now c.args.self.now.setting c.args.callee _ c.args.values c.args.self.now.activation _ (below c.args.unit.now c.args.self.now.stack) (below c.args.unit.now c.push_answering.new.self) (below c.args.unit.now c.push_performing.new.self) c.requires.other (c.if-not-spend.ensures.yes refl) c.of_object-at.ensures (sym c.is_past.ensures ∙ c.if-is_past.false)
    (answering_on c.args.unit.now c.args.self.now.stack c.set_aside.new.self c.push_answering.new.self c.copy_of.result _ c.set_aside.ensures.frames c.set_aside.ensures.activations c.copy_of.ensures c.push_answering.ensures.frames c.push_answering.ensures.activations)
    (performing_on c.args.unit.now c.push_answering.new.self c.push_performing.new.self _ _ c.push_performing.ensures.frames c.push_performing.ensures.activations)
