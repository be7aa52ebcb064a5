use Rattle.std.proofs.Common.{refl, sym, subst}
use Rattle.rv_feed.specs.Hearing.{HearsOn, heard}
use Rattle.rv_feed.specs.declared.pair.Feed.{Feed}
use Rattle.rv_feed.proofs.Heard.{at_still, hears_none, hears_on}
use Rattle.rv_feed.proofs.listening.Listening.hear_sections.Goals as goal

pub loop-init : goal.loop-init
loop-init g c = record { goes = (tt, tt); hears = hears_none _ _ _ _ refl refl; at = c.new-looked.ensures _ }

pub loop-preserved : goal.loop-preserved
loop-preserved g c =
    let first = subst (λ (f : Feed). HearsOn (heard c.args.self.now.feed) (heard f) c.args.input.now c.loop.input) (sym c.is_stopped.ensures.feed) c.loop.invariant.hears in
    record {
      goes = (tt, tt);
      hears = hears_on _ _ _ _ _ _ first c.in-Ok-true.ensures.hears;
      at = at_still c.has_sections.new.self _ _ c.loop.input c.hear_more.new.input c.in-Ok-true.ensures.hears c.has_sections.ensures.begins;
    }

pub returns-in-Ok-false-clause-hears : goal.returns-in-Ok-false-clause-hears
returns-in-Ok-false-clause-hears g c =
    let first = subst (λ (f : Feed). HearsOn (heard c.args.self.now.feed) (heard f) c.args.input.now c.loop.input) (sym c.is_stopped.ensures.feed) c.loop.invariant.hears in
    hears_on _ _ _ _ _ _ first c.in-Ok-false.ensures.hears
