use Rattle.std.proofs.Common.{◌≡◌, List, length}
use Rattle.std.specs.List.{AllZip}
use Rattle.rv_access.specs.Words.{Words}
use Rattle.rv_shape.specs.Catalogue.{dotted}
use Rattle.rv_shape.specs.Fits.{object_name}
use Rattle.rv_shape.specs.Names.{operation_names}
use Rattle.rv_table.specs.Edits.{edited}
use Rattle.rv_table.specs.Tables.{IsSite}
use Rattle.rv_table.proofs.Halves.{Half}
use Rattle.rv_table.proofs.rows.edit_operations.Given as goal

-- the rows so far are of the edited list
abbrev pub invariant-loop-i : goal.invariant-loop-i
invariant-loop-i l = (list : List Words) → l.lines ≡ length list → AllZip (IsSite list (dotted l.unit (object_name l.object))) (operation_names l.object) l.initial.rows
    → Half (IsSite list (dotted l.unit (object_name l.object))) (IsSite (edited l.edit list) (dotted l.unit (object_name l.object))) (operation_names l.object) l.rows l.i
