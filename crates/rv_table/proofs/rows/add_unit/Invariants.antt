use Rattle.std.proofs.Common.{◌++◌, List, take, map}
use Rattle.std.specs.List.{AllZip}
use Rattle.rv_shape.specs.Catalogue.{UnitObject}
use Rattle.rv_shape.specs.declared.object.Object.{Object}
use Rattle.rv_table.specs.Tables.{AreSites}
use Rattle.rv_table.proofs.rows.add_unit.Given as goal

-- the rows of the objects so far
abbrev pub invariant-loop-object : goal.invariant-loop-object
invariant-loop-object l = (before : List UnitObject) → AllZip (AreSites l.list) before l.initial.rows.items
    → AllZip (AreSites l.list) (before ++ map (λ (object : Object). record { unit = l.shape.name; object = object }) (take l.object-index l.shape.objects)) l.rows.items
