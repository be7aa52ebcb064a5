use Rattle.std.proofs.Common.{rules, ◌≡◌, ◌∙◌, sym, ap, arith, to_z, of_z, w64, Ok}
use Rattle.rv_machine.proofs.Steps.{at_result}
use Rattle.rv_machine.proofs.values.operand_comes.Goals as goal

pub returns-in-Ok : goal.returns-in-Ok
returns-in-Ok c =
    let item : to_z w64 (of_z w64 c.in-Ok.value) ≡ c.in-Ok.value = Prim.first_of (Prim.search rules, Prim.grind arith) in
    λ fs. at_result _ _ _ _ _ _ (c.in-Ok.is ∙ ap Ok (sym item)) (c.take_operand.ensures fs)
