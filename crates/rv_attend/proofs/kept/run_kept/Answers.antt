use Rattle.std.proofs.Common.{inl, inr, refl}
use Rattle.rv_feed.specs.Hearing.{heard, told}
use Rattle.rv_attend.proofs.Beginning.{attended_kept}
use Rattle.rv_attend.proofs.kept.run_kept.Goals as goal

pub returns-in-Ok-session_on : goal.returns-in-Ok-session_on
returns-in-Ok-session_on g c = λ first.
    attended_kept _ _ c.args.follower.now.asked c.args.input.now c.take_sections.new.input c.attend_enough.result c.in-Ok.before.bytes.items c.as_slice.result.now
    c.in-Ok.before.runs (heard c.take_sections.new.source.feed) (told c.take_sections.new.source.stop) c.in-Ok-session_on.session.staff
    c.in-Ok-session_on.session.capacity c.as_slice.ensures.value c.in-Ok-session_on.ensures.opened c.in-Ok.ensures
    (rw (← c.in-Ok-session_on.ensures.silent) (c.attend_enough.ensures first))

pub returns-in-Err : goal.returns-in-Err
returns-in-Err g c = λ first. inr (inl refl)
