use Rattle.std.proofs.Common.{◌∙◌, sym, subst}
use Rattle.rv_feed.specs.Hearing.{HearsOn, heard}
use Rattle.rv_feed.specs.declared.pair.Feed.{Feed}
use Rattle.rv_attend.proofs.GoingOn.{any_ok, goes_out, if_ok}
use Rattle.rv_attend.proofs.waiting.wait_once.Goals as goal

pub returns-in-Ok-Command-clause-goes : goal.returns-in-Ok-Command-clause-goes
returns-in-Ok-Command-clause-goes g c = c.in-Ok-Command.ensures.comes c.in-Ok-Command.field-0-is

pub returns-in-Ok-clause-hears : goal.returns-in-Ok-clause-hears
returns-in-Ok-clause-hears g c =
    if_ok c.do_once.result (λ goes. Unit {0}) _
    (λ goes any.
    subst (λ (f : Feed). HearsOn (heard c.args.follower.now.source.feed) (heard f) c.args.input.now c.hear.new.input) (sym (c.do_once.ensures.feed ∙ c.hint.ensures.feed)) c.in-Ok.ensures.hears)
    (any_ok c.do_once.result)

pub returns-in-Ok-clause-goes : goal.returns-in-Ok-clause-goes
returns-in-Ok-clause-goes g c = goes_out _ c.do_once.result c.do_once.ensures.ends
