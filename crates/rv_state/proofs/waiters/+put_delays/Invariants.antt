use Rattle.std.proofs.Common.{length}
use Rattle.rv_state.proofs.waiters.+put_delays.Given as goal

abbrev pub decreases-put_delays : goal.decreases-put_delays
decreases-put_delays l = length l.begun.now
