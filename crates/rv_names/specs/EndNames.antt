-- The name after an `end` is the opening one (ISO/IEC 8652:2012, 6.3, 7.1, 7.2, 9.1, 9.4, 9.5.2).
use Rattle.std.specs.Prelude.{Bool, true, ◌&&◌, Option, Some, None}
use Rattle.std.specs.List.{list_all}
use Rattle.rv_text.specs.Names.{is_same_name}
use Rattle.rv_tree.specs.Names.{Identifier}
use Rattle.rv_tree.specs.Declarations.{TaskDefinition, Declaration, a_protected_unit, a_task}
use Rattle.rv_tree.specs.Bodies.{OperationBody}
use Rattle.rv_tree.specs.Units.{BodyItem, body_declaration, body_protected, body_task, UnitTree}
use Rattle.rv_tree.specs.Operations.{operation_body_name, operation_body_block}

-- what a name opens ends without a name, or with that name
abbrev pub ends : Identifier → Option Identifier → Bool
ends opening None = true
ends opening (Some end) = is_same_name opening.text end.text

abbrev pub definition_ends : Identifier → Option TaskDefinition → Bool
definition_ends opening None = true
definition_ends opening (Some definition) = ends opening definition.end_name

abbrev pub declaration_ends : Declaration → Bool
declaration_ends (a_protected_unit unit) = ends unit.name unit.end_name
declaration_ends (a_task task) = definition_ends task.name task.definition
declaration_ends other = true

abbrev pub operation_body_ends : OperationBody → Bool
operation_body_ends body = ends (operation_body_name body) (operation_body_block body).end_name

abbrev pub body_item_ends : BodyItem → Bool
body_item_ends (body_declaration one) = declaration_ends one
body_item_ends (body_protected body) = list_all operation_body_ends body.operations && ends body.name body.end_name
body_item_ends (body_task body) = ends body.name body.block.end_name

-- all that the names of a text open
abbrev pub unit_ends : UnitTree → Bool
unit_ends tree =
    list_all declaration_ends tree.specification.declarations
    && ends tree.specification.name tree.specification.end_name
    && list_all body_item_ends tree.body.items
    && ends tree.body.name tree.body.end_name
