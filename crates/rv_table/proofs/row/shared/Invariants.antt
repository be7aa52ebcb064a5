use Rattle.std.proofs.Common.{◌-◌}
use Rattle.rv_table.proofs.Shared.{Half}
use Rattle.rv_table.proofs.row.shared.Given as goal

abbrev pub invariant-loop-w : goal.invariant-loop-w
invariant-loop-w l = Half l.ours l.theirs l.words l.w

abbrev pub decreases-loop-w : goal.decreases-loop-w
decreases-loop-w l = 8 - l.w
