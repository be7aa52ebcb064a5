use Rattle.std.proofs.Common.{ℕ}
use Rattle.std.specs.Io.Iter.{lines_known_bytes}
use Rattle.rv_port.specs.Calls.{Stays}
use Rattle.rv_port.specs.Ports.{pass_of}
use Rattle.rv_actor.specs.Serving.{ServesUpTo, at}
use Rattle.rv_actor.proofs.serving.serve.Given as goal

abbrev pub invariant-loop : goal.invariant-loop
invariant-loop g l = record {
  goes : (goal.iterator-loop g).can_next l.iterator' × (goal.iterator-loop g).is_finite l.iterator';
  served : (count : ℕ) × ServesUpTo l.fn.catalogue count
      (at l.fn.port (lines_known_bytes g.I.Read.remaining l.fn.desk.lines) (g.W.Write.contents l.fn.desk.writer))
      (at l.port (lines_known_bytes g.I.Read.remaining l.desk.lines) (g.W.Write.contents l.desk.writer));
  stays : Stays (pass_of l.fn.port) (pass_of l.port);
}
