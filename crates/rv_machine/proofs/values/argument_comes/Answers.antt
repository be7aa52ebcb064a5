use Rattle.std.proofs.Common.{rules, ◌≡◌, ◌∙◌, sym, ap, arith, to_z, of_z, w64, Ok}
use Rattle.rv_machine.proofs.Steps.{at_result}
use Rattle.rv_machine.proofs.ValueSteps.{argument_fails}
use Rattle.rv_machine.proofs.values.argument_comes.Goals as goal

pub returns-in-Ok : goal.returns-in-Ok
returns-in-Ok c =
    let item : to_z w64 (of_z w64 c.in-Ok.value) ≡ c.in-Ok.value = Prim.first_of (Prim.search rules, Prim.grind arith) in
    λ fs. at_result _ _ _ _ _ _ (c.in-Ok.is ∙ ap Ok (sym item)) (c.take_argument.ensures fs)

pub returns-in-Err : goal.returns-in-Err
returns-in-Err c = λ fs. at_result _ _ _ _ _ _ c.in-Err.is (argument_fails _ _ _ _ fs)
