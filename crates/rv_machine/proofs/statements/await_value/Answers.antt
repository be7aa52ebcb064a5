use Rattle.rv_machine.proofs.AtOnceSteps.{evaluated}
use Rattle.rv_machine.proofs.Composing.{behind, keeps, stays_on}
use Rattle.rv_machine.proofs.Steps.{value_on}
use Rattle.rv_machine.proofs.statements.await_value.Goals as goal

pub returns-in-Some-clause-keeps : goal.returns-in-Some-clause-keeps
returns-in-Some-clause-keeps c = keeps _ _ _ _ (behind _ _ _ _ _ _ (evaluated _ _ _ _ c.in-Some.ensures) c.part_comes.ensures.leads)

pub returns-in-None-clause-keeps : goal.returns-in-None-clause-keeps
returns-in-None-clause-keeps c = stays_on _ _ _ (value_on c.args.unit.now c.args.stack.now c.push_value.new.self _ c.push_value.ensures.frames c.push_value.ensures.activations)
