use Rattle.std.proofs.Common.{refl}
use Rattle.rv_feed.specs.Hearing.{heard, told}
use Rattle.rv_attend.specs.Going.{terms}
use Rattle.rv_attend.specs.Holding.{holding}
use Rattle.rv_attend.proofs.Ended.{keeps_from}
use Rattle.rv_attend.proofs.kept.play.Goals as goal

pub returns : goal.returns
returns g c = λ opened kept.
    keeps_from (λ f. holding (g.F.Write.contents f.keeper.file) f.keeper.next (terms f.asked f.room.capacity) (heard f.source.feed) (told f.source.stop)) opened c.args.runs
    _ _ _ _ c.run_session.result c.run_session.ensures refl kept
