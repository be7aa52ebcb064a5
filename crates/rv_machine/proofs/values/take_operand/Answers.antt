use Rattle.std.proofs.Common.{rules, ◌≡◌, ◌∙◌, sym, ap, refl, arith, to_z, of_z, w64, Ok}
use Rattle.rv_machine.proofs.Steps.{at_number, at_operand, at_left}
use Rattle.rv_machine.proofs.ValueSteps.{prefix_taken, chain_taken, operand_taken, operand_raises, bounds_taken}
use Rattle.rv_machine.proofs.values.take_operand.Goals as goal

pub returns-in-Prefixing : goal.returns-in-Prefixing
returns-in-Prefixing c =
    let item : to_z w64 (of_z w64 c.args.value) ≡ c.args.value = Prim.first_of (Prim.search rules, Prim.grind arith) in
    λ fs. at_number _ _ _ _ _ _ item (at_operand _ _ _ _ _ _ _ c.in-Prefixing.is (prefix_taken _ _ _ _ _ c.prefix_of.ensures))

pub returns-in-Linking : goal.returns-in-Linking
returns-in-Linking c =
    let item : to_z w64 (of_z w64 c.args.value) ≡ c.args.value = Prim.first_of (Prim.search rules, Prim.grind arith) in
    λ fs. at_number _ _ _ _ _ _ item (at_operand _ _ _ _ _ _ _ c.in-Linking.is (chain_taken _ _ _ _ _ refl))

pub returns-in-Ok : goal.returns-in-Ok
returns-in-Ok c =
    let item : to_z w64 (of_z w64 c.args.value) ≡ c.args.value = Prim.first_of (Prim.search rules, Prim.grind arith) in
    let left : to_z w64 (of_z w64 c.in-Operating.left) ≡ c.in-Operating.left = Prim.first_of (Prim.search rules, Prim.grind arith) in
    let result : to_z w64 (of_z w64 c.in-Ok.result) ≡ c.in-Ok.result = Prim.first_of (Prim.search rules, Prim.grind arith) in
    λ fs. at_number _ _ _ _ _ _ item (at_operand _ _ _ _ _ _ _ c.in-Operating.is (at_left _ _ _ _ _ _ _ _ left (operand_taken _ _ _ _ _ _ _ (sym c.result_of.ensures ∙ (c.in-Ok.is ∙ ap Ok (sym result))))))

pub returns-in-Err : goal.returns-in-Err
returns-in-Err c =
    let item : to_z w64 (of_z w64 c.args.value) ≡ c.args.value = Prim.first_of (Prim.search rules, Prim.grind arith) in
    let left : to_z w64 (of_z w64 c.in-Operating.left) ≡ c.in-Operating.left = Prim.first_of (Prim.search rules, Prim.grind arith) in
    λ fs. at_number _ _ _ _ _ _ item (at_operand _ _ _ _ _ _ _ c.in-Operating.is (at_left _ _ _ _ _ _ _ _ left (operand_raises _ _ _ _ _ _ _ (sym c.result_of.ensures ∙ c.in-Err.is))))

pub returns-in-Bounding : goal.returns-in-Bounding
returns-in-Bounding c =
    let item : to_z w64 (of_z w64 c.args.value) ≡ c.args.value = Prim.first_of (Prim.search rules, Prim.grind arith) in
    λ fs. at_number _ _ _ _ _ _ item (at_operand _ _ _ _ _ _ _ c.in-Bounding.is (bounds_taken _ _ _ _ _ c.within.ensures))
