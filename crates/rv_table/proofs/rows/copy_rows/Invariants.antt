use Rattle.std.proofs.Common.{◌≡◌, take}
use Rattle.rv_table.proofs.rows.copy_rows.Given as goal

-- those so far
abbrev pub invariant-loop-row : goal.invariant-loop-row
invariant-loop-row l = l.copy.items ≡ take l.row-index l.rows
