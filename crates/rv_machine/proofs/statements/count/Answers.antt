use Rattle.std.proofs.Common.{rules, ◌≡◌, ◌∙◌, refl, arith, ◌-◌, to_z, of_z, w64}
use Rattle.rv_machine.proofs.Steps.{count_on, one_less}
use Rattle.rv_machine.proofs.StatementSteps.{no_value, value_overruns, next_value}
use Rattle.rv_machine.proofs.statements.count.Goals as goal

pub returns-then-count-eq0-clause-leads : goal.returns-then-count-eq0-clause-leads
returns-then-count-eq0-clause-leads c = no_value _ _ _ _ _ _ _ _ c.if-count-eq0.true

pub returns-then-not-step-clause-leads : goal.returns-then-not-step-clause-leads
returns-then-not-step-clause-leads c = value_overruns _ (c.args.count.left - 1) _ _ _ _ _ _ _ _ (one_less _ c.if-count-eq0.false) (c.if-not-step.ensures.no refl) (c.if-not-step.ensures.same refl)

pub returns-clause-leads : goal.returns-clause-leads
returns-clause-leads c =
    let item : to_z w64 (of_z w64 c.value_before.result) ≡ c.value_before.result = Prim.first_of (Prim.search rules, Prim.grind arith) in
    next_value _ (c.args.count.left - 1) _ _ _ _ _ _ _ _ _ _ _ (one_less _ c.if-count-eq0.false) (c.if-not-step.ensures.yes refl) (item ∙ c.value_before.ensures) c.put_slot.ensures (count_on c.args.unit.now c.args.stack.now c.push_count.new.self _ _ c.push_count.ensures.frames c.push_count.ensures.activations)
