use Rattle.std.proofs.Common.{◌∙◌, sym}
use Rattle.rv_machine.proofs.Composing.{comes_to_in, keeps}
use Rattle.rv_machine.proofs.Meetings.{in_each}
use Rattle.rv_machine.proofs.EndSteps.{sequence_goes, sequence_stops}
use Rattle.rv_machine.proofs.ends.take_statement_end.Goals as goal

pub returns-then-is_next-clause-leads : goal.returns-then-is_next-clause-leads
returns-then-is_next-clause-leads c = comes_to_in _ _ _ _ _ _ _ (keeps _ _ _ _ (sequence_goes _ _ _ _ (sym c.is_next.ensures ∙ c.if-is_next.true))) c.run_all.ensures.leads

pub returns-else-is_next-clause-leads : goal.returns-else-is_next-clause-leads
returns-else-is_next-clause-leads c = in_each _ _ _ _ _ (sequence_stops _ _ _ _ (sym c.is_next.ensures ∙ c.if-is_next.false))
