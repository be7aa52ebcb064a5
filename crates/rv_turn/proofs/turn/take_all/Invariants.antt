use Rattle.std.proofs.Common.{◌≡◌, ◌++◌, map, false, length}
use Rattle.rv_turn.specs.Histories.{Each}
use Rattle.rv_turn.specs.Passes.{kept_of}
use Rattle.rv_turn.proofs.turn.take_all.Given as goal

abbrev pub invariant-loop-other : goal.invariant-loop-other
invariant-loop-other g l = record {
  same : (l.place.table_id ≡ l.fn.place.table_id) × (l.place.me.1 ≡ l.fn.place.me.1);
  came : Each (λ p. (p.first ≡ false) × (p.turn ≡ l.fn.place.table_id)) l.others.items;
  rest : l.place.me.0 ≡ record l.fn.place.me.0 { kept = l.place.me.0.kept };
  kept : map kept_of l.others.items ++ l.place.me.0.kept ≡ map kept_of l.fn.others.items ++ l.fn.place.me.0.kept;
}

abbrev pub decreases-loop-other : goal.decreases-loop-other
decreases-loop-other g l = length l.others.items
