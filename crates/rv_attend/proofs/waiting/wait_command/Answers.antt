use Rattle.std.proofs.Common.{◌∙◌, refl, sym, ap, subst, rules}
use Rattle.rv_feed.specs.Hearing.{HearsOn, heard, told}
use Rattle.rv_feed.specs.declared.pair.Feed.{Feed}
use Rattle.rv_feed.proofs.Heard.{hears_none, hears_on}
use Rattle.rv_input.specs.Whole.{HasCommand}
use Rattle.rv_attend.specs.Lasting.{standing}
use Rattle.rv_attend.proofs.Attended.{grows_on, grows_same}
use Rattle.rv_attend.proofs.Chores.{chores_tend, no_chores_in}
use Rattle.rv_attend.proofs.GoingOn.{goes_after, goes_unless, goes_with}
use Rattle.rv_attend.proofs.waiting.wait_command.Goals as goal

pub returns-then-has_command-clause-tends : goal.returns-then-has_command-clause-tends
returns-then-has_command-clause-tends g c = (λ opened kept. kept, no_chores_in _ _ _ refl, refl, refl)

pub returns-then-has_command-clause-grows : goal.returns-then-has_command-clause-grows
returns-then-has_command-clause-grows g c = grows_same _ _ refl

pub returns-then-has_command-clause-hears : goal.returns-then-has_command-clause-hears
returns-then-has_command-clause-hears g c = hears_none _ _ _ _ (ap heard c.unless_stopped.ensures.feed) refl

pub returns-then-has_command-clause-goes : goal.returns-then-has_command-clause-goes
returns-then-has_command-clause-goes g c =
    let has : HasCommand c.args.input.now = search rules in
    goes_with (standing g.F.Write.contents c.args.session.now.staff c.args.follower.now)
    (standing g.F.Write.contents c.args.session.now.staff c.args.follower.now) c.args.input.now
    (heard c.unless_stopped.new.source.feed) (told c.args.follower.now.source.stop) (told c.unless_stopped.new.source.stop) c.unless_stopped.result
    c.unless_stopped.ensures.goes has

pub loop-init : goal.loop-init
loop-init g c = record { tends = (λ opened kept. kept, no_chores_in _ _ _ refl, refl, refl); grows = grows_same _ _ refl; hears = hears_none _ _ _ _ refl refl }

pub loop-preserved : goal.loop-preserved
loop-preserved g c = record {
  tends = (
    λ opened kept. c.in-Ok-None.ensures.tends.0 opened (c.loop.invariant.tends.0 opened kept),
    chores_tend _ _ _ _ _ c.loop.invariant.tends.3 c.loop.invariant.tends.1 c.wait_once.ensures.tends.1,
    c.wait_once.ensures.tends.2 ∙ c.loop.invariant.tends.2,
    c.wait_once.ensures.tends.3 ∙ c.loop.invariant.tends.3,
  );
  grows = grows_on _ _ _ c.loop.invariant.grows c.wait_once.ensures.grows;
  hears = hears_on _ _ _ _ _ _ c.loop.invariant.hears c.in-Ok-None.ensures.hears;
}

pub returns-in-Ok-Some-clause-tends : goal.returns-in-Ok-Some-clause-tends
returns-in-Ok-Some-clause-tends g c = (
  λ opened kept. c.in-Ok-Some.ensures.tends.0 opened (c.loop.invariant.tends.0 opened kept),
  chores_tend _ _ _ _ _ c.loop.invariant.tends.3 c.loop.invariant.tends.1 c.wait_once.ensures.tends.1,
  c.wait_once.ensures.tends.2 ∙ c.loop.invariant.tends.2,
  c.wait_once.ensures.tends.3 ∙ c.loop.invariant.tends.3,
)

pub returns-in-Ok-Some-clause-grows : goal.returns-in-Ok-Some-clause-grows
returns-in-Ok-Some-clause-grows g c = grows_on _ _ _ c.loop.invariant.grows c.wait_once.ensures.grows

pub returns-in-Ok-Some-clause-hears : goal.returns-in-Ok-Some-clause-hears
returns-in-Ok-Some-clause-hears g c =
    subst (λ (f : Feed). HearsOn (heard c.args.follower.now.source.feed) (heard f) c.args.input.now c.wait_once.new.input) (sym c.unless_stopped-in-Ok-Some.ensures.feed)
    (hears_on _ _ _ _ _ _ c.loop.invariant.hears c.in-Ok-Some.ensures.hears)

pub returns-in-Ok-Some-clause-goes : goal.returns-in-Ok-Some-clause-goes
returns-in-Ok-Some-clause-goes g c =
    goes_unless (standing g.F.Write.contents c.args.session.now.staff c.args.follower.now)
    (standing g.F.Write.contents c.wait_once.new.session.staff c.wait_once.new.follower) c.wait_once.new.input
    (heard c.wait_once.new.follower.source.feed) (heard c.unless_stopped-in-Ok-Some.new.source.feed) (told c.wait_once.new.follower.source.stop)
    (told c.unless_stopped-in-Ok-Some.new.source.stop) c.in-Ok-Some.goes c.unless_stopped-in-Ok-Some.result (ap heard c.unless_stopped-in-Ok-Some.ensures.feed)
    c.unless_stopped-in-Ok-Some.ensures.goes
    (goes_after (standing g.F.Write.contents c.args.session.now.staff c.args.follower.now)
    (standing g.F.Write.contents c.loop.session.staff c.loop.follower)
    (standing g.F.Write.contents c.wait_once.new.session.staff c.wait_once.new.follower) c.wait_once.new.input
    (heard c.wait_once.new.follower.source.feed) (told c.wait_once.new.follower.source.stop) c.in-Ok-Some.goes
    (rw c.in-Ok-Some.field-0-is at c.in-Ok-Some.ensures.goes))

pub returns-in-Err-clause-tends : goal.returns-in-Err-clause-tends
returns-in-Err-clause-tends g c = (
  λ opened kept. c.in-Err.ensures.tends.0 opened (c.loop.invariant.tends.0 opened kept),
  chores_tend _ _ _ _ _ c.loop.invariant.tends.3 c.loop.invariant.tends.1 c.wait_once.ensures.tends.1,
  c.wait_once.ensures.tends.2 ∙ c.loop.invariant.tends.2,
  c.wait_once.ensures.tends.3 ∙ c.loop.invariant.tends.3,
)

pub returns-in-Err-clause-grows : goal.returns-in-Err-clause-grows
returns-in-Err-clause-grows g c = grows_on _ _ _ c.loop.invariant.grows c.wait_once.ensures.grows
