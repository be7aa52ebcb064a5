use Rattle.std.proofs.Common.{◌≡◌, List, length}
use Rattle.std.specs.List.{AllZip}
use Rattle.rv_access.specs.Words.{Words}
use Rattle.rv_shape.specs.Catalogue.{all_objects}
use Rattle.rv_table.specs.Edits.{edited}
use Rattle.rv_table.specs.Tables.{AreSites}
use Rattle.rv_table.proofs.Halves.{Half}
use Rattle.rv_table.proofs.rows.edit_objects.Given as goal

-- the rows so far are of the edited list
abbrev pub invariant-loop-i : goal.invariant-loop-i
invariant-loop-i l = (list : List Words) → l.lines ≡ length list → AllZip (AreSites list) (all_objects l.catalogue) l.initial.rows
    → Half (AreSites list) (AreSites (edited l.edit list)) (all_objects l.catalogue) l.rows l.i
