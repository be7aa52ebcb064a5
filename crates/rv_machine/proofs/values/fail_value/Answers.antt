use Rattle.rv_machine.proofs.ValueSteps.{value_fails}
use Rattle.rv_machine.proofs.values.fail_value.Goals as goal

pub returns : goal.returns
returns c = λ fs. value_fails _ _ _ _ fs
