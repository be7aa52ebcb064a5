use Rattle.std.proofs.Common.{refl}
use Rattle.rv_machine.proofs.Composing.{behind_kept}
use Rattle.rv_machine.proofs.StatementSteps.{no_declaration, next_declaration}
use Rattle.rv_machine.proofs.statements.declare.Goals as goal

pub returns-in-None-clause-leads : goal.returns-in-None-clause-leads
returns-in-None-clause-leads c = no_declaration _ _ _ (c.in-None.ensures.none refl)

pub returns-in-Some-clause-leads : goal.returns-in-Some-clause-leads
returns-in-Some-clause-leads c = behind_kept _ _ _ _ _ _ (next_declaration _ _ _ _ _ _ c.in-Some.ensures.found refl) c.await_value.ensures.keeps
