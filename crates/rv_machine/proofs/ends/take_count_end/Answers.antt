use Rattle.std.proofs.Common.{◌∙◌, sym}
use Rattle.rv_machine.proofs.Composing.{behind}
use Rattle.rv_machine.proofs.EndSteps.{count_goes, count_stops}
use Rattle.rv_machine.proofs.ends.take_count_end.Goals as goal

pub returns-then-is_next-clause-leads : goal.returns-then-is_next-clause-leads
returns-then-is_next-clause-leads c = behind _ _ _ _ _ _ (count_goes _ _ _ _ _ _ _ _ _ (sym c.is_next.ensures ∙ c.if-is_next.true)) c.count.ensures.leads

pub returns-else-is_next-clause-leads : goal.returns-else-is_next-clause-leads
returns-else-is_next-clause-leads c = count_stops _ _ _ _ _ _ _ _ _ _ (sym c.is_next.ensures ∙ c.if-is_next.false) c.left_by.ensures
