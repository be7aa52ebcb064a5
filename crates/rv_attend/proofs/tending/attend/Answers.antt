use Rattle.std.proofs.Common.{◌≡◌, ◌∙◌, ap, inl, refl, rules, subst}
use Rattle.rv_keep.proofs.Keeping.{keeps_itself}
use Rattle.rv_feed.specs.Hearing.{HearsOn, heard, told}
use Rattle.rv_feed.specs.declared.pair.Feed.{Feed}
use Rattle.rv_feed.proofs.Heard.{hears_none}
use Rattle.rv_run.specs.declared.command.Goes.TheVariants.{Out}
use Rattle.rv_attend.specs.Going.{Terms}
use Rattle.rv_attend.specs.Lasting.{standing}
use Rattle.rv_attend.proofs.Attended.{attends, grows_same, keeps_silent}
use Rattle.rv_attend.proofs.Chores.{chores_tend}
use Rattle.rv_attend.proofs.GoingOn.{goes_after, if_ok}
use Rattle.rv_attend.proofs.tending.attend.Goals as goal

pub returns-in-On-clause-tends : goal.returns-in-On-clause-tends
returns-in-On-clause-tends g c = (
  λ opened kept. c.wait_prompted.ensures.tends.0 opened (c.in-Ok.ensures.tends.0 opened kept),
  chores_tend _ _ _ _ _ c.do_chores.ensures.tends.3 c.do_chores.ensures.tends.1 c.wait_prompted.ensures.tends.1,
  c.wait_prompted.ensures.tends.2 ∙ c.do_chores.ensures.tends.2,
  c.wait_prompted.ensures.tends.3 ∙ c.do_chores.ensures.tends.3,
)

pub returns-in-On-clause-attends : goal.returns-in-On-clause-attends
returns-in-On-clause-attends g c = λ left plain.
    let still = ap (λ (t : Terms). t.asked.console) c.do_chores.ensures.tends.3 ∙ plain in
    attends _ _ _ _ _ _ _ left (chores_tend _ _ _ _ _ c.do_chores.ensures.tends.3 c.do_chores.ensures.tends.1 c.wait_prompted.ensures.tends.1) (c.wait_prompted.ensures.tends.2 ∙ c.do_chores.ensures.tends.2)
    c.wait_prompted.ensures.grows
    (keeps_silent _ _ _ (c.hand_on.ensures still) (c.wait_prompted.ensures.silent still))

pub returns-in-Out-clause-attends : goal.returns-in-Out-clause-attends
returns-in-Out-clause-attends g c = λ left plain.
    attends _ _ _ _ _ _ _ left c.do_chores.ensures.tends.1 c.do_chores.ensures.tends.2 (grows_same _ _ refl)
    (c.hand_on.ensures (ap (λ (t : Terms). t.asked.console) c.do_chores.ensures.tends.3 ∙ plain))

pub returns-in-Err-hand_on-clause-attends : goal.returns-in-Err-hand_on-clause-attends
returns-in-Err-hand_on-clause-attends g c = λ left plain.
    attends _ _ _ _ _ _ _ left c.do_chores.ensures.tends.1 c.do_chores.ensures.tends.2 (grows_same _ _ refl)
    (c.hand_on.ensures (ap (λ (t : Terms). t.asked.console) c.do_chores.ensures.tends.3 ∙ plain))

pub returns-in-Err-clause-attends : goal.returns-in-Err-clause-attends
returns-in-Err-clause-attends g c = λ left plain.
    attends _ _ _ _ _ _ _ left c.do_chores.ensures.tends.1 c.do_chores.ensures.tends.2 (grows_same _ _ refl) (keeps_itself _)

pub returns-in-On-clause-hears : goal.returns-in-On-clause-hears
returns-in-On-clause-hears g c =
    if_ok c.wait_prompted.result _ _
    (λ goes hears. subst (λ (f : Feed). HearsOn (heard f) (heard c.wait_prompted.new.follower.source.feed) c.args.input.now c.wait_prompted.new.input) c.do_chores.ensures.feed hears)
    c.wait_prompted.ensures.hears

pub returns-in-On-clause-goes : goal.returns-in-On-clause-goes
returns-in-On-clause-goes g c =
    if_ok c.wait_prompted.result _ _
    (λ goes why.
    goes_after (standing g.F.Write.contents c.args.session.now.staff c.args.follower.now)
    (standing g.F.Write.contents c.do_chores.new.session.staff c.do_chores.new.follower)
    (standing g.F.Write.contents c.wait_prompted.new.session.staff c.wait_prompted.new.follower) c.wait_prompted.new.input
    (heard c.wait_prompted.new.follower.source.feed) (told c.wait_prompted.new.follower.source.stop) goes why)
    c.wait_prompted.ensures.goes

pub returns-in-Out-clause-hears : goal.returns-in-Out-clause-hears
returns-in-Out-clause-hears g c = hears_none _ _ _ _ (ap heard c.do_chores.ensures.feed) refl

pub returns-in-Out-clause-goes : goal.returns-in-Out-clause-goes
returns-in-Out-clause-goes g c =
    let out : c.in-Ok.round.goes ≡ Out = search rules in
    inl (c.in-Ok.ensures.ends out)
