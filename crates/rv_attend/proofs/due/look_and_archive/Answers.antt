use Rattle.std.proofs.Common.{◌∙◌}
use Rattle.rv_follow.proofs.Reading.{kept_later}
use Rattle.rv_attend.proofs.Chores.{chores_in_later, chores_tend}
use Rattle.rv_attend.proofs.due.look_and_archive.Goals as goal

pub returns-in-Ok-clause-tends : goal.returns-in-Ok-clause-tends
returns-in-Ok-clause-tends g c = (
  λ opened kept. kept_later opened _ _ _ _ (c.in-Ok.ensures.tends.0 opened kept) (chores_in_later _ _ _ c.give_up_written.ensures.chores),
  chores_tend _ _ _ _ _ c.look.ensures.tends.3 c.look.ensures.tends.1 c.give_up_written.ensures.chores,
  c.give_up_written.ensures.crew ∙ c.look.ensures.tends.2,
  c.look.ensures.tends.3,
)
