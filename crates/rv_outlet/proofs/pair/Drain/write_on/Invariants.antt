use Rattle.rv_outlet.specs.Order.{pieces_known}
use Rattle.rv_outlet.specs.Writing.{WritesTaken}
use Rattle.rv_outlet.proofs.pair.Drain.write_on.Given as goal

abbrev pub invariant-loop : goal.invariant-loop
invariant-loop g l = record {
  goes : (goal.iterator-loop g).can_next l.iterator' × (goal.iterator-loop g).is_finite l.iterator';
  writes : WritesTaken (pieces_known l.fn.self.pass.me.view.client) (pieces_known l.self.pass.me.view.client) (g.W.Write.contents l.fn.writer) (g.W.Write.contents l.writer);
}
