use Rattle.std.proofs.Common.{◌≡◌, true}
use Rattle.rv_port.specs.Traces.{Passing, SettlesIf}
use Rattle.rv_port.proofs.asker.Asker.settle_dropped.Given as goal

abbrev pub invariant-loop : goal.invariant-loop
invariant-loop g l = record {
  behind : (w : Passing) → SettlesIf l.is_dropped l.self.pass w → SettlesIf true l.fn.self.pass w;
  mark : l.self.is_refused ≡ l.fn.self.is_refused;
}
