-- The names of the bodies of a text, each beside those that it has to differ from (ISO/IEC 8652:2012, 3.11.1, 7.2, 9.1, 9.4).
use Rattle.std.specs.Prelude.{Bool, List, [], ◌∷◌, map}
use Rattle.std.specs.List.{flat_map, list_all}
use Rattle.rv_tree.specs.Names.{Identifier}
use Rattle.rv_tree.specs.Units.{BodyItem, body_declaration, body_protected, body_task, UnitTree}
use Rattle.rv_tree.specs.Operations.{operation_body_name}
use Rattle.rv_distinct.specs.Regions.{are_distinct}

-- the body of a protected unit or of a task
abbrev pub item_bodies : BodyItem → List Identifier
item_bodies (body_declaration one) = []
item_bodies (body_protected body) = body.name ∷ []
item_bodies (body_task body) = body.name ∷ []

-- the bodies of a protected body's operations
abbrev pub operation_bodies : BodyItem → List (List Identifier)
operation_bodies (body_declaration one) = []
operation_bodies (body_protected body) = map operation_body_name body.operations ∷ []
operation_bodies (body_task body) = []

-- the bodies of the package's protected units and tasks, then those of the operations of each protected unit
abbrev pub body_names : UnitTree → List (List Identifier)
body_names tree = flat_map item_bodies tree.body.items ∷ flat_map operation_bodies tree.body.items

-- no protected unit and no task has two bodies, and no operation of a protected unit has two
abbrev pub has_one_body_each : UnitTree → Bool
has_one_body_each tree = list_all are_distinct (body_names tree)
