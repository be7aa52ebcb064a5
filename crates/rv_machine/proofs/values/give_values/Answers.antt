use Rattle.std.proofs.Common.{rules, ◌≡◌, ◌∙◌, arith, to_z, of_z, w64}
use Rattle.rv_machine.proofs.Steps.{at_values}
use Rattle.rv_machine.proofs.ValueSteps.{values_passed, values_given, values_copied}
use Rattle.rv_machine.proofs.values.give_values.Goals as goal

pub returns-in-Passing : goal.returns-in-Passing
returns-in-Passing c = λ fs. at_values _ _ _ _ _ _ _ c.in-Passing.is (values_passed _ _ _ fs)

pub returns-in-Giving : goal.returns-in-Giving
returns-in-Giving c =
    let item : to_z w64 (of_z w64 c.value_at.result) ≡ c.value_at.result = Prim.first_of (Prim.search rules, Prim.grind arith) in
    λ fs. at_values _ _ _ _ _ _ _ c.in-Giving.is (values_given _ _ _ fs (item ∙ c.value_at.ensures))

pub returns-in-Copying : goal.returns-in-Copying
returns-in-Copying c = λ fs. at_values _ _ _ _ _ _ _ c.in-Copying.is (values_copied _ _ _ _ _ fs c.copy_back.ensures)
