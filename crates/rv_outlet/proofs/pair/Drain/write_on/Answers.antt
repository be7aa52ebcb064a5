use Rattle.rv_outlet.specs.Order.{pieces_known}
use Rattle.rv_outlet.proofs.Written.{failed_last, taken_more}
use Rattle.rv_outlet.proofs.pair.Drain.write_on.Goals as goal

pub loop-preserved : goal.loop-preserved
loop-preserved g c = record {
  goes = (tt, tt);
  writes =
      taken_more (pieces_known c.args.self.now.pass.me.view.client) (pieces_known c.loop.self.pass.me.view.client) (pieces_known c.write_next.new.self.pass.me.view.client)
      (g.W.Write.contents c.args.writer.now) (g.W.Write.contents c.loop.writer) (g.W.Write.contents c.write_next.new.writer) c.loop.invariant.writes c.in-Ok.ensures;
}

pub returns-in-Err : goal.returns-in-Err
returns-in-Err g c =
    failed_last (pieces_known c.args.self.now.pass.me.view.client) (pieces_known c.loop.self.pass.me.view.client) (pieces_known c.write_next.new.self.pass.me.view.client)
    (g.W.Write.contents c.args.writer.now) (g.W.Write.contents c.loop.writer) (g.W.Write.contents c.write_next.new.writer) c.loop.invariant.writes c.in-Err.ensures
