use Rattle.std.proofs.Common.{◌∷◌, take}
use Rattle.std.specs.List.{AllZip}
use Rattle.rv_table.specs.Spans.{IsOpenRow}
use Rattle.rv_table.proofs.spans.rows_of.Given as goal

-- the rows so far
abbrev pub invariant-loop-end : goal.invariant-loop-end
invariant-loop-end l = AllZip (IsOpenRow l.list) (0 ∷ take l.end-index l.ends) l.rows.items
