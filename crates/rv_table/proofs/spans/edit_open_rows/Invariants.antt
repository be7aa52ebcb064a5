use Rattle.std.proofs.Common.{◌≡◌, ℕ, List, length}
use Rattle.std.specs.List.{AllZip}
use Rattle.rv_access.specs.Words.{Words}
use Rattle.rv_table.specs.Edits.{edited}
use Rattle.rv_table.specs.Spans.{IsOpenRow}
use Rattle.rv_table.proofs.Halves.{Half}
use Rattle.rv_table.proofs.spans.edit_open_rows.Given as goal

-- the rows so far are of the edited list
abbrev pub invariant-loop-i : goal.invariant-loop-i
invariant-loop-i l = (list : List Words) (ticks : List ℕ) → l.lines ≡ length list → AllZip (IsOpenRow list) ticks l.initial.rows
    → Half (IsOpenRow list) (IsOpenRow (edited l.edit list)) ticks l.rows l.i
