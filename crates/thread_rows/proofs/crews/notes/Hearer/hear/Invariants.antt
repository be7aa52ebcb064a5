use Rattle.std.proofs.Common.{◌≡◌}
use Rattle.crossbeam_channel.specs.Claims.{view}
use Rattle.thread_rows.proofs.crews.notes.Hearer.hear.Given as goal

abbrev pub invariant-loop : goal.invariant-loop
invariant-loop g l = view l.self.pass ≡ view l.fn.self.pass
