use Rattle.rv_outlet.specs.Order.{pieces_known}
use Rattle.rv_outlet.proofs.Written.{next_written}
use Rattle.rv_outlet.proofs.pair.Drain.write_next.Goals as goal

pub returns-in-Some : goal.returns-in-Some
returns-in-Some g c =
    next_written (pieces_known c.args.self.now.pass.me.view.client) (pieces_known c.take.new.self.pass.me.view.client) c.in-Some.bytes c.as_slice.result.now
    (g.W.Write.contents c.args.writer.now) (g.W.Write.contents c.hand_on.new.writer) c.hand_on.result c.in-Some.ensures c.as_slice.ensures.value c.hand_on.ensures.ok c.hand_on.ensures.err
