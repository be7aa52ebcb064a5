use Rattle.std.proofs.Common.{rules, ◌≡◌, ◌∙◌, sym, refl, arith, to_z, of_z, w64}
use Rattle.rv_machine.proofs.Steps.{at_number, at_value, at_bounds, value_on}
use Rattle.rv_machine.proofs.ValueSteps.{value_assigned, branch_taken, branch_passed, selection_taken, low_taken, exit_taken, return_taken, declaration_goes, declaration_ends}
use Rattle.rv_machine.proofs.values.take_value.Goals as goal

pub returns-in-Assigning-clause-leads : goal.returns-in-Assigning-clause-leads
returns-in-Assigning-clause-leads c =
    let item : to_z w64 (of_z w64 c.args.value) ≡ c.args.value = Prim.first_of (Prim.search rules, Prim.grind arith) in
    at_number _ _ _ _ _ _ item (at_value _ _ _ _ _ _ _ c.in-Assigning.is (value_assigned _ _ _ _ _ _ c.assign.ensures))

pub returns-then-is_true-clause-leads : goal.returns-then-is_true-clause-leads
returns-then-is_true-clause-leads c =
    let item : to_z w64 (of_z w64 c.args.value) ≡ c.args.value = Prim.first_of (Prim.search rules, Prim.grind arith) in
    at_number _ _ _ _ _ _ item (at_value _ _ _ _ _ _ _ c.in-Branching.is (branch_taken _ _ _ _ _ _ (sym c.is_true.ensures ∙ c.if-is_true.true)))

pub returns-else-is_true-clause-leads : goal.returns-else-is_true-clause-leads
returns-else-is_true-clause-leads c =
    let item : to_z w64 (of_z w64 c.args.value) ≡ c.args.value = Prim.first_of (Prim.search rules, Prim.grind arith) in
    at_number _ _ _ _ _ _ item (at_value _ _ _ _ _ _ _ c.in-Branching.is (branch_passed _ _ _ _ _ _ (sym c.is_true.ensures ∙ c.if-is_true.false)))

pub returns-in-Selecting-clause-leads : goal.returns-in-Selecting-clause-leads
returns-in-Selecting-clause-leads c =
    let item : to_z w64 (of_z w64 c.args.value) ≡ c.args.value = Prim.first_of (Prim.search rules, Prim.grind arith) in
    at_number _ _ _ _ _ _ item (at_value _ _ _ _ _ _ _ c.in-Selecting.is (selection_taken _ _ _ _ _ refl))

pub returns-in-Lowering-clause-leads : goal.returns-in-Lowering-clause-leads
returns-in-Lowering-clause-leads c =
    let item : to_z w64 (of_z w64 c.args.value) ≡ c.args.value = Prim.first_of (Prim.search rules, Prim.grind arith) in
    at_number _ _ _ _ _ _ item (at_value _ _ _ _ _ _ _ c.in-Lowering.is (low_taken _ _ _ _ _ _ _ _ _ _ refl (value_on c.args.unit.now c.args.stack.now c.push_value.new.self _ c.push_value.ensures.frames c.push_value.ensures.activations)))

pub returns-in-Raising-clause-leads : goal.returns-in-Raising-clause-leads
returns-in-Raising-clause-leads c =
    let item : to_z w64 (of_z w64 c.args.value) ≡ c.args.value = Prim.first_of (Prim.search rules, Prim.grind arith) in
    let low : to_z w64 (of_z w64 c.in-Raising.low) ≡ c.in-Raising.low = Prim.first_of (Prim.search rules, Prim.grind arith) in
    at_value _ _ _ _ _ _ _ c.in-Raising.is (at_bounds _ _ _ _ _ _ _ _ _ _ _ _ low item (c.start_count.ensures _))

pub returns-in-Leaving-clause-leads : goal.returns-in-Leaving-clause-leads
returns-in-Leaving-clause-leads c =
    let item : to_z w64 (of_z w64 c.args.value) ≡ c.args.value = Prim.first_of (Prim.search rules, Prim.grind arith) in
    at_number _ _ _ _ _ _ item (at_value _ _ _ _ _ _ _ c.in-Leaving.is (exit_taken _ _ _ _ c.exit_where.ensures))

pub returns-in-Returning-clause-leads : goal.returns-in-Returning-clause-leads
returns-in-Returning-clause-leads c =
    let item : to_z w64 (of_z w64 c.args.value) ≡ c.args.value = Prim.first_of (Prim.search rules, Prim.grind arith) in
    at_number _ _ _ _ _ _ item (at_value _ _ _ _ _ _ _ c.in-Returning.is (return_taken _ _ _ _ refl))

pub returns-then-is_next-clause-leads : goal.returns-then-is_next-clause-leads
returns-then-is_next-clause-leads c =
    let item : to_z w64 (of_z w64 c.args.value) ≡ c.args.value = Prim.first_of (Prim.search rules, Prim.grind arith) in
    at_number _ _ _ _ _ _ item (at_value _ _ _ _ _ _ _ c.in-Declaring.is (declaration_goes _ _ _ _ _ _ _ c.assign-end.ensures (sym c.is_next.ensures ∙ c.if-is_next.true)))

pub returns-else-is_next-clause-leads : goal.returns-else-is_next-clause-leads
returns-else-is_next-clause-leads c =
    let item : to_z w64 (of_z w64 c.args.value) ≡ c.args.value = Prim.first_of (Prim.search rules, Prim.grind arith) in
    at_number _ _ _ _ _ _ item (at_value _ _ _ _ _ _ _ c.in-Declaring.is (declaration_ends _ _ _ _ _ _ _ c.assign-end.ensures (sym c.is_next.ensures ∙ c.if-is_next.false)))
