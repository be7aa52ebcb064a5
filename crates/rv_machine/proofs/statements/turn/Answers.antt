use Rattle.std.proofs.Common.{◌-◌, refl}
use Rattle.rv_machine.proofs.Composing.{behind_kept}
use Rattle.rv_machine.proofs.Steps.{one_less}
use Rattle.rv_machine.proofs.StatementSteps.{no_turn, next_turn}
use Rattle.rv_machine.proofs.statements.turn.Goals as goal

pub returns-then-turns-eq0-clause-leads : goal.returns-then-turns-eq0-clause-leads
returns-then-turns-eq0-clause-leads c = no_turn _ _ _ _ _ c.if-turns-eq0.true

pub returns-clause-leads : goal.returns-clause-leads
returns-clause-leads c = behind_kept _ _ _ _ _ _ (next_turn _ (c.args.turns - 1) _ _ _ _ _ (one_less _ c.if-turns-eq0.false) refl) c.await_value.ensures.keeps
