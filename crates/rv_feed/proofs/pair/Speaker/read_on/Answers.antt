use Rattle.rv_feed.proofs.Ordered.{ends_not_by_fault}
use Rattle.rv_feed.proofs.pair.Speaker.read_on.Goals as goal

pub returns-in-Failed-clause-ends : goal.returns-in-Failed-clause-ends
returns-in-Failed-clause-ends g c = ends_not_by_fault _ _ c.in-Failed.fault c.say-in-Failed.result _ c.say-in-Failed.ensures
