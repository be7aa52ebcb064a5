use Rattle.std.proofs.Common.{◌∙◌, refl}
use Rattle.rv_follow.proofs.Reading.{kept_later}
use Rattle.rv_attend.proofs.Chores.{chores_later, chores_tend, widen}
use Rattle.rv_attend.proofs.due.catch_up.Goals as goal

pub loop-init : goal.loop-init
loop-init g c = record {
  tends = (
    λ opened kept. kept_later opened _ _ _ _ kept (chores_later _ _ c.entries_now-most.ensures.chores),
    widen _ _ _ c.entries_now-most.ensures.chores,
    c.entries_now-most.ensures.crew,
    refl,
  );
  feed = refl;
}

pub loop-preserved : goal.loop-preserved
loop-preserved g c = record {
  tends = (
    λ opened kept. c.in-Ok.ensures.tends.0 opened (c.loop.invariant.tends.0 opened kept),
    chores_tend _ _ _ _ _ c.loop.invariant.tends.3 c.loop.invariant.tends.1 c.do_round.ensures.tends.1,
    c.do_round.ensures.tends.2 ∙ c.loop.invariant.tends.2,
    c.do_round.ensures.tends.3 ∙ c.loop.invariant.tends.3,
  );
  feed = c.is_last.ensures ∙ c.do_round.ensures.feed ∙ c.loop.invariant.feed;
}

pub returns-then-is_last-clause-tends : goal.returns-then-is_last-clause-tends
returns-then-is_last-clause-tends g c = (
  λ opened kept. c.in-Ok.ensures.tends.0 opened (c.loop.invariant.tends.0 opened kept),
  chores_tend _ _ _ _ _ c.loop.invariant.tends.3 c.loop.invariant.tends.1 c.do_round.ensures.tends.1,
  c.do_round.ensures.tends.2 ∙ c.loop.invariant.tends.2,
  c.do_round.ensures.tends.3 ∙ c.loop.invariant.tends.3,
)

pub returns-then-is_last-clause-ends : goal.returns-then-is_last-clause-ends
returns-then-is_last-clause-ends g c = c.in-Ok.ensures.ends

pub returns-then-is_last-clause-feed : goal.returns-then-is_last-clause-feed
returns-then-is_last-clause-feed g c = c.is_last.ensures ∙ c.do_round.ensures.feed ∙ c.loop.invariant.feed

pub returns-in-Err-clause-tends : goal.returns-in-Err-clause-tends
returns-in-Err-clause-tends g c = (
  λ opened kept. c.in-Err.ensures.tends.0 opened (c.loop.invariant.tends.0 opened kept),
  chores_tend _ _ _ _ _ c.loop.invariant.tends.3 c.loop.invariant.tends.1 c.do_round.ensures.tends.1,
  c.do_round.ensures.tends.2 ∙ c.loop.invariant.tends.2,
  c.do_round.ensures.tends.3 ∙ c.loop.invariant.tends.3,
)

pub returns-in-Err-clause-feed : goal.returns-in-Err-clause-feed
returns-in-Err-clause-feed g c = c.do_round.ensures.feed ∙ c.loop.invariant.feed
