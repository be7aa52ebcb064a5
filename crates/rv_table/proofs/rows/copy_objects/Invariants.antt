use Rattle.std.proofs.Common.{◌≡◌, take}
use Rattle.rv_table.proofs.rows.copy_objects.Given as goal

-- those so far
abbrev pub invariant-loop-each : goal.invariant-loop-each
invariant-loop-each l = l.copy.items ≡ take l.each-index l.rows
