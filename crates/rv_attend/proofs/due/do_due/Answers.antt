use Rattle.std.proofs.Common.{◌∙◌, ℕ, ap}
use Rattle.rv_follow.proofs.Reading.{kept_later}
use Rattle.rv_attend.specs.Going.{terms}
use Rattle.rv_attend.proofs.Chores.{chores_in_on, chores_later, widen}
use Rattle.rv_attend.proofs.GoingOn.{low_as}
use Rattle.rv_attend.proofs.due.do_due.Goals as goal

pub returns-in-Ok-clause-tends : goal.returns-in-Ok-clause-tends
returns-in-Ok-clause-tends g c = (
  λ opened kept. kept_later opened _ _ _ _ (c.in-Ok.ensures.tends.0 opened (kept_later opened _ _ _ _ kept (chores_later _ _ c.beat.ensures.chores)))
      (chores_later _ _ c.beat_behind.ensures.chores),
  chores_in_on _ _ _ _ (chores_in_on _ _ _ _ (widen _ _ _ c.beat.ensures.chores) c.look_and_archive.ensures.tends.1) (widen _ _ _ c.beat_behind.ensures.chores),
  c.beat_behind.ensures.crew ∙ c.look_and_archive.ensures.tends.2 ∙ c.beat.ensures.crew,
  ap (λ (n : ℕ). terms c.look_and_archive.new.follower.asked n) c.keep_room-goes.ensures.capacity ∙ c.look_and_archive.ensures.tends.3,
)

pub returns-in-Ok-clause-ends : goal.returns-in-Ok-clause-ends
returns-in-Ok-clause-ends g c = λ out.
    low_as c.look_and_archive.new.follower.asked c.look_and_archive.new.follower.room.capacity _ c.saturating_sub-used.result _ c.keep_room-goes.ensures.capacity
    c.saturating_sub-used.ensures (c.keep_room-goes.ensures.ends out)

pub returns-in-Err-clause-tends : goal.returns-in-Err-clause-tends
returns-in-Err-clause-tends g c = (
  λ opened kept. c.in-Err.ensures.tends.0 opened (kept_later opened _ _ _ _ kept (chores_later _ _ c.beat.ensures.chores)),
  chores_in_on _ _ _ _ (widen _ _ _ c.beat.ensures.chores) c.look_and_archive.ensures.tends.1,
  c.look_and_archive.ensures.tends.2 ∙ c.beat.ensures.crew,
  c.look_and_archive.ensures.tends.3,
)
