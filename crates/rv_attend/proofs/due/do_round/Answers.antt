use Rattle.std.proofs.Common.{refl}
use Rattle.rv_follow.proofs.Reading.{is_prefix}
use Rattle.rv_attend.proofs.Chores.{no_chores_in}
use Rattle.rv_attend.proofs.due.do_round.Goals as goal

pub returns-in-Err-clause-tends : goal.returns-in-Err-clause-tends
returns-in-Err-clause-tends g c = (λ opened kept. is_prefix opened _ _ _ kept, no_chores_in _ _ _ refl, refl, refl)

pub returns-in-Err-keep_times-clause-tends : goal.returns-in-Err-keep_times-clause-tends
returns-in-Err-keep_times-clause-tends g c = (
  λ opened kept. is_prefix opened _ _ _ (c.in-Ok.ensures.tends.0 opened kept),
  c.do_due.ensures.tends.1,
  c.do_due.ensures.tends.2,
  c.do_due.ensures.tends.3,
)
