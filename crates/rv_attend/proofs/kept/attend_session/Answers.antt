use Rattle.rv_attend.proofs.kept.attend_session.Goals as goal

pub returns : goal.returns
returns g c =
    rw (
      c.open_outsiders.ensures.staff,
      c.open_outsiders.ensures.keeper,
      c.open_outsiders.ensures.asked,
      c.open_outsiders.ensures.room,
      c.open_outsiders.ensures.source,
      c.open_notices.ensures.staff,
      c.open_notices.ensures.keeper,
      c.open_notices.ensures.asked,
      c.open_notices.ensures.room,
      c.open_notices.ensures.source,
      c.keep_given.ensures.keeper,
      c.keep_given.ensures.asked,
      c.keep_given.ensures.room,
      c.keep_given.ensures.source,
    ) at c.play.ensures
