use Rattle.rv_machine.proofs.Steps.{at_values}
use Rattle.rv_machine.proofs.ValueSteps.{passing_fails, giving_fails, copying_fails}
use Rattle.rv_machine.proofs.values.fail_values.Goals as goal

pub returns-in-Passing : goal.returns-in-Passing
returns-in-Passing c = λ fs. at_values _ _ _ _ _ _ _ c.in-Passing.is (passing_fails _ _ _ fs)

pub returns-in-Giving : goal.returns-in-Giving
returns-in-Giving c = λ fs. at_values _ _ _ _ _ _ _ c.in-Giving.is (giving_fails _ _ fs)

pub returns-in-Copying : goal.returns-in-Copying
returns-in-Copying c = λ fs. at_values _ _ _ _ _ _ _ c.in-Copying.is (copying_fails _ _ _ fs)
