use Rattle.std.specs.Prelude.{Ok}
use Rattle.rv_feed.specs.Hearing.{HearsOn, heard}
use Rattle.rv_attend.specs.Attending.{Grows}
use Rattle.rv_attend.specs.Lasting.{Tends, standing}
use Rattle.rv_attend.proofs.waiting.wait_command.Given as goal

abbrev pub invariant-loop : goal.invariant-loop
invariant-loop g l = record {
  tends : Tends {X = Unit {0}} (standing g.F.Write.contents l.fn.session.staff l.fn.follower)
      (standing g.F.Write.contents l.session.staff l.follower) (Ok tt);
  grows : Grows l.fn.input l.input;
  hears : HearsOn (heard l.fn.follower.source.feed) (heard l.follower.source.feed) l.fn.input l.input;
}
