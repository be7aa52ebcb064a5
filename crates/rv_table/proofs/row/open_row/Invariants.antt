use Rattle.std.proofs.Common.{◌≡◌, ◌<◌, ◌≤◌, ◌-◌, length, ℕ}
use Rattle.std.specs.Prelude.{slice_index_or}
use Rattle.rv_access.specs.Words.{Words}
use Rattle.rv_table.specs.Rows.{has, one, is_open_at}
use Rattle.rv_table.proofs.row.open_row.Given as goal

abbrev pub invariant-loop-i : goal.invariant-loop-i
invariant-loop-i l = record {
  done : (d : Words) (k : ℕ) → k < l.i → has l.words (length l.list - 1 - k) ≡ one (is_open_at l.tick (slice_index_or l.list k d));
  left : (j : ℕ) → j < length l.list - l.i → has l.words j ≡ 0;
  behind : (j : ℕ) → length l.list ≤ j → has l.words j ≡ 0;
}
