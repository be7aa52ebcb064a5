use Rattle.std.proofs.Common.{◌∙◌, sym, ap, subst}
use Rattle.rv_feed.specs.Hearing.{HearsOn, heard, told}
use Rattle.rv_feed.specs.declared.pair.Feed.{Feed}
use Rattle.rv_attend.specs.Lasting.{standing}
use Rattle.rv_attend.proofs.Chores.{chores_tend}
use Rattle.rv_attend.proofs.GoingOn.{caught_up}
use Rattle.rv_attend.proofs.waiting.wait_caught_up.Goals as goal

pub returns-in-Ok-clause-tends : goal.returns-in-Ok-clause-tends
returns-in-Ok-clause-tends g c = (
  λ opened kept. c.in-Ok.ensures.tends.0 opened (c.in-Ok-On.ensures.tends.0 opened kept),
  chores_tend _ _ _ _ _ c.wait_command.ensures.tends.3 c.wait_command.ensures.tends.1 c.do_chores.ensures.tends.1,
  c.do_chores.ensures.tends.2 ∙ c.wait_command.ensures.tends.2,
  c.do_chores.ensures.tends.3 ∙ c.wait_command.ensures.tends.3,
)

pub returns-in-Ok-clause-hears : goal.returns-in-Ok-clause-hears
returns-in-Ok-clause-hears g c =
    subst (λ (f : Feed). HearsOn (heard c.args.follower.now.source.feed) (heard f) c.args.input.now c.wait_command.new.input) (sym c.do_chores.ensures.feed)
    c.in-Ok-On.ensures.hears

pub returns-in-Ok-clause-goes : goal.returns-in-Ok-clause-goes
returns-in-Ok-clause-goes g c =
    caught_up (standing g.F.Write.contents c.args.session.now.staff c.args.follower.now)
    (standing g.F.Write.contents c.wait_command.new.session.staff c.wait_command.new.follower)
    (standing g.F.Write.contents c.do_chores.new.session.staff c.do_chores.new.follower) c.wait_command.new.input
    (heard c.wait_command.new.follower.source.feed) (heard c.do_chores.new.follower.source.feed) (told c.do_chores.new.follower.source.stop) c.in-Ok.round.goes
    (ap heard c.do_chores.ensures.feed) (rw c.in-Ok-On.field-0-is at c.in-Ok-On.ensures.goes) c.in-Ok.ensures.ends

pub returns-in-Err-clause-tends : goal.returns-in-Err-clause-tends
returns-in-Err-clause-tends g c = (
  λ opened kept. c.in-Err.ensures.tends.0 opened (c.in-Ok-On.ensures.tends.0 opened kept),
  chores_tend _ _ _ _ _ c.wait_command.ensures.tends.3 c.wait_command.ensures.tends.1 c.do_chores.ensures.tends.1,
  c.do_chores.ensures.tends.2 ∙ c.wait_command.ensures.tends.2,
  c.do_chores.ensures.tends.3 ∙ c.wait_command.ensures.tends.3,
)
