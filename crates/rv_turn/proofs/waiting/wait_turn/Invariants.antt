use Rattle.std.proofs.Common.{◌≡◌}
use Rattle.rv_turn.proofs.waiting.wait_turn.Given as goal

abbrev pub invariant-loop : goal.invariant-loop
invariant-loop g l = (l.place.table_id ≡ l.fn.place.table_id) × (l.place.me ≡ l.fn.place.me)
