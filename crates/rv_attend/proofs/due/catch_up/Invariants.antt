use Rattle.std.specs.Prelude.{◌≡◌, Ok}
use Rattle.rv_attend.specs.Lasting.{Tends, standing}
use Rattle.rv_attend.proofs.due.catch_up.Given as goal

abbrev pub invariant-loop : goal.invariant-loop
invariant-loop g l = record {
  tends : Tends {X = Unit {0}} (standing g.F.Write.contents l.fn.session.staff l.fn.follower)
      (standing g.F.Write.contents l.session.staff l.follower) (Ok tt);
  feed : l.follower.source.feed ≡ l.fn.follower.source.feed;
}
