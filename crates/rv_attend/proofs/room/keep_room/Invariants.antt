use Rattle.std.specs.Prelude.{◌≡◌}
use Rattle.rv_attend.proofs.room.keep_room.Given as goal

abbrev pub invariant-loop : goal.invariant-loop
invariant-loop g l = l.room.capacity ≡ l.fn.room.capacity
