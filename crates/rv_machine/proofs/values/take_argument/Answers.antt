use Rattle.std.proofs.Common.{rules, ◌≡◌, arith, to_z, of_z, w64}
use Rattle.rv_machine.proofs.Steps.{at_number}
use Rattle.rv_machine.proofs.ValueSteps.{argument_taken}
use Rattle.rv_machine.proofs.values.take_argument.Goals as goal

pub returns : goal.returns
returns c =
    let item : to_z w64 (of_z w64 c.args.value) ≡ c.args.value = Prim.first_of (Prim.search rules, Prim.grind arith) in
    λ fs. at_number _ _ _ _ _ _ item (argument_taken _ _ _ _ _ _ c.join.ensures)
