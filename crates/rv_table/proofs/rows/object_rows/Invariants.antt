use Rattle.std.proofs.Common.{take}
use Rattle.std.specs.List.{AllZip}
use Rattle.rv_shape.specs.Catalogue.{all_objects}
use Rattle.rv_table.specs.Tables.{AreSites}
use Rattle.rv_table.proofs.rows.object_rows.Given as goal

-- the rows of the units so far
abbrev pub invariant-loop-shape : goal.invariant-loop-shape
invariant-loop-shape l = AllZip (AreSites l.list) (all_objects (take l.shape-index l.shapes)) l.rows.items
