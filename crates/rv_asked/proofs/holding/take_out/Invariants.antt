use Rattle.std.proofs.Common.{◌≡◌, [], take}
use Rattle.std.specs.List.{filter}
use Rattle.rv_asked.proofs.Finding.{by}
use Rattle.rv_asked.proofs.holding.take_out.Given as goal

abbrev pub invariant-loop-at : goal.invariant-loop-at
invariant-loop-at l = record {
  same : l.bodies.items ≡ l.initial.bodies.items;
  none : filter (by l.actor) (take l.at l.bodies.items) ≡ [];
}
