use Rattle.std.proofs.Common.{◌≡◌, List, length}
use Rattle.std.specs.List.{AllZip}
use Rattle.rv_access.specs.Words.{Words}
use Rattle.rv_table.specs.Edits.{edited}
use Rattle.rv_table.specs.Tables.{IsCaller, callers}
use Rattle.rv_table.proofs.Halves.{Half}
use Rattle.rv_table.proofs.rows.edit_callers.Given as goal

-- the rows so far are of the edited list
abbrev pub invariant-loop-i : goal.invariant-loop-i
invariant-loop-i l = (list : List Words) → l.lines ≡ length list → AllZip (IsCaller list) (callers l.shapes) l.initial.rows
    → Half (IsCaller list) (IsCaller (edited l.edit list)) (callers l.shapes) l.rows l.i
