use Rattle.std.proofs.Common.{rules, ◌≡◌, ◌∙◌, sym, refl, arith, to_z, of_z, w64}
use Rattle.rv_machine.proofs.Steps.{operand_on}
use Rattle.rv_machine.proofs.ExpressionSteps.{no_link, skipped, linked}
use Rattle.rv_machine.proofs.expressions.link.Goals as goal

pub returns-in-None-clause-leads : goal.returns-in-None-clause-leads
returns-in-None-clause-leads c =
    let item : to_z w64 (of_z w64 c.args.value) ≡ c.args.value = Prim.first_of (Prim.search rules, Prim.grind arith) in
    no_link _ _ _ _ _ (c.in-None.ensures.none refl) item

pub returns-then-decides-clause-leads : goal.returns-then-decides-clause-leads
returns-then-decides-clause-leads c =
    let item : to_z w64 (of_z w64 c.args.value) ≡ c.args.value = Prim.first_of (Prim.search rules, Prim.grind arith) in
    skipped _ _ _ _ _ _ _ _ c.in-Some.ensures.found item (sym c.decides.ensures ∙ c.if-decides.true)

pub returns-else-decides-clause-leads : goal.returns-else-decides-clause-leads
returns-else-decides-clause-leads c =
    let item : to_z w64 (of_z w64 c.args.value) ≡ c.args.value = Prim.first_of (Prim.search rules, Prim.grind arith) in
    linked _ _ _ _ _ _ _ _ _ c.in-Some.ensures.found item (sym c.decides.ensures ∙ c.if-decides.false) (operand_on c.args.unit.now c.args.stack.now c.push_operand.new.self _ c.push_operand.ensures.frames c.push_operand.ensures.activations)
