use Rattle.std.proofs.Common.{◌≡◌, ◌<◌, ◌≤◌, ◌-◌, ◌*◌, ℕ}
use Rattle.std.specs.Prelude.{min}
use Rattle.rv_table.specs.Rows.{has}
use Rattle.rv_table.proofs.row.first_common.Given as goal

abbrev pub invariant-loop-w : goal.invariant-loop-w
invariant-loop-w l = record {
  within : l.w ≤ 8;
  none : (j : ℕ) → j < 64 * l.w → min (has l.ours j) (has l.theirs j) ≡ 0;
}

abbrev pub decreases-loop-w : goal.decreases-loop-w
decreases-loop-w l = 8 - l.w
