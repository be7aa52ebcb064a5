use Rattle.std.proofs.Common.{[]}
use Rattle.rv_feed.specs.Hearing.{HandsOnBut, said}
use Rattle.rv_feed.specs.Order.{IsOver}
use Rattle.rv_feed.proofs.pair.Speaker.read_all.Given as goal

abbrev pub invariant-loop : goal.invariant-loop
invariant-loop g l = record {
  goes : (goal.iterator-loop g).can_next l.iterator' × (goal.iterator-loop g).is_finite l.iterator';
  going : (IsOver (said l.fn.self) → ⊥) → IsOver (said l.self) → ⊥;
  whole : HandsOnBut [] (said l.fn.self) (said l.self) (g.I.Read.remaining l.fn.reader) (g.I.Read.remaining l.reader);
}
