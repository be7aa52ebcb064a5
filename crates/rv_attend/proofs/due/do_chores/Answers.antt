use Rattle.std.proofs.Common.{◌∙◌}
use Rattle.rv_attend.proofs.Chores.{chores_tend}
use Rattle.rv_attend.proofs.due.do_chores.Goals as goal

pub returns-else-is_over-clause-tends : goal.returns-else-is_over-clause-tends
returns-else-is_over-clause-tends g c = (
  λ opened kept. c.catch_up.ensures.tends.0 opened (c.in-Ok.ensures.tends.0 opened kept),
  chores_tend _ _ _ _ _ c.do_round.ensures.tends.3 c.do_round.ensures.tends.1 c.catch_up.ensures.tends.1,
  c.catch_up.ensures.tends.2 ∙ c.do_round.ensures.tends.2,
  c.catch_up.ensures.tends.3 ∙ c.do_round.ensures.tends.3,
)

pub returns-else-is_over-clause-ends : goal.returns-else-is_over-clause-ends
returns-else-is_over-clause-ends g c = c.catch_up.ensures.ends

pub returns-else-is_over-clause-feed : goal.returns-else-is_over-clause-feed
returns-else-is_over-clause-feed g c = c.catch_up.ensures.feed ∙ c.is_over.ensures ∙ c.do_round.ensures.feed
