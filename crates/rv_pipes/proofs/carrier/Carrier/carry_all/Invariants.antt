use Rattle.std.proofs.Common.{ℕ}
use Rattle.rv_pipes.specs.Carrying.{CarriesUpTo}
use Rattle.rv_pipes.proofs.carrier.Carrier.carry_all.Given as goal

abbrev pub invariant-loop : goal.invariant-loop
invariant-loop g l = record {
  goes : (goal.iterator-loop g).can_next l.iterator' × (goal.iterator-loop g).is_finite l.iterator';
  carried : (count : ℕ) × CarriesUpTo count (g.W.Write.contents l.fn.writer) (g.W.Write.contents l.writer);
}
