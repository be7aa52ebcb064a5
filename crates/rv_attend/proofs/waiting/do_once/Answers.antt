use Rattle.rv_feed.specs.Hearing.{told}
use Rattle.rv_attend.proofs.GoingOn.{ends_by}
use Rattle.rv_attend.proofs.waiting.do_once.Goals as goal

pub returns-in-Ok-clause-ends : goal.returns-in-Ok-clause-ends
returns-in-Ok-clause-ends g c =
    ends_by _ (told c.do_round.new.follower.source.stop) (told c.unless_stopped.new.source.stop) c.in-Ok.round.goes c.unless_stopped.result c.unless_on.result
    c.in-Ok.ensures.ends c.unless_stopped.ensures.goes c.unless_on.ensures
