use Rattle.std.proofs.Common.{take}
use Rattle.std.specs.List.{AllZip}
use Rattle.rv_table.specs.Tables.{IsCaller, callers}
use Rattle.rv_table.proofs.rows.caller_rows.Given as goal

-- the rows so far
abbrev pub invariant-loop-shape : goal.invariant-loop-shape
invariant-loop-shape l = AllZip (IsCaller l.list) (callers (take l.shape-index l.shapes)) l.rows.items
