use Rattle.std.specs.Prelude.{◌≡◌}
use Rattle.thread_rows.proofs.crews.room_again.fill.Given as goal

abbrev pub invariant-loop : goal.invariant-loop
invariant-loop g l = l.control.turn ≡ l.fn.control.turn
