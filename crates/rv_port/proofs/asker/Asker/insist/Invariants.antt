use Rattle.std.proofs.Common.{◌≡◌}
use Rattle.rv_port.specs.Traces.{InVain}
use Rattle.rv_port.proofs.asker.Asker.insist.Given as goal

abbrev pub invariant-loop : goal.invariant-loop
invariant-loop g l = record {
  vain : InVain l.fn.self.pass l.fn.letter.request l.self.pass;
  request : l.letter.request ≡ l.fn.letter.request;
  mark : l.self.is_refused ≡ l.fn.self.is_refused;
}
