use Rattle.rv_machine.proofs.ValueSteps.{operand_fails_so}
use Rattle.rv_machine.proofs.values.fail_operand.Goals as goal

pub returns : goal.returns
returns c = λ fs. operand_fails_so _ _ _ _ fs
