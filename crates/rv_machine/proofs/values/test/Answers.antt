use Rattle.std.proofs.Common.{rules, ◌≡◌, ◌∙◌, sym, refl, arith, to_z, of_z, w64}
use Rattle.rv_machine.proofs.Steps.{at_number, end_on}
use Rattle.rv_machine.proofs.ValueSteps.{turns_over, turn_overruns, turn_taken}
use Rattle.rv_machine.proofs.values.test.Goals as goal

pub returns-then-not-is_true-clause-leads : goal.returns-then-not-is_true-clause-leads
returns-then-not-is_true-clause-leads c =
    let item : to_z w64 (of_z w64 c.args.value) ≡ c.args.value = Prim.first_of (Prim.search rules, Prim.grind arith) in
    at_number _ _ _ _ _ _ item (turns_over _ _ _ _ _ _ (sym c.is_true.ensures ∙ c.if-not-is_true.true))

pub returns-then-not-step-clause-leads : goal.returns-then-not-step-clause-leads
returns-then-not-step-clause-leads c =
    let item : to_z w64 (of_z w64 c.args.value) ≡ c.args.value = Prim.first_of (Prim.search rules, Prim.grind arith) in
    at_number _ _ _ _ _ _ item (turn_overruns _ _ _ _ _ _ _ (sym c.is_true.ensures ∙ c.if-not-is_true.false) (c.if-not-step.ensures.no refl) (c.if-not-step.ensures.same refl))

pub returns-clause-leads : goal.returns-clause-leads
returns-clause-leads c =
    let item : to_z w64 (of_z w64 c.args.value) ≡ c.args.value = Prim.first_of (Prim.search rules, Prim.grind arith) in
    at_number _ _ _ _ _ _ item (turn_taken _ _ _ _ _ _ _ _ (sym c.is_true.ensures ∙ c.if-not-is_true.false) (c.if-not-step.ensures.yes refl) (end_on c.args.unit.now c.args.stack.now c.push_end.new.self _ c.push_end.ensures.frames c.push_end.ensures.activations))
