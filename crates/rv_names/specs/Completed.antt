-- Each protected unit, each task and each operation of a protected unit has a body in the package body (ISO/IEC 8652:2012,
-- 3.11.1, 9.1, 9.4).
use Rattle.std.specs.Prelude.{ℕ, Bool, true, false, ◌&&◌, List, [], ◌∷◌, Option, Some, None, is_some, if◌then◌else◌}
use Rattle.std.specs.List.{list_all, list_any}
use Rattle.std.specs.Option.{option_map, unwrap_or}
use Rattle.indexmap.specs.IndexMap.{insert_entry}
use Rattle.rv_text.specs.Names.{is_same_name}
use Rattle.rv_tree.specs.Declarations.{OperationDeclaration, ProtectedElement, an_operation, a_component, ProtectedUnit, Declaration, a_protected_unit, a_task}
use Rattle.rv_tree.specs.Bodies.{OperationBody}
use Rattle.rv_tree.specs.Units.{BodyItem, body_declaration, body_protected, body_task, UnitTree}
use Rattle.rv_scope.specs.Scope.{Region}
use Rattle.rv_scope.specs.Predefined.{named}
use Rattle.rv_scope.specs.UnitUses.{protected_units}
use Rattle.rv_tree.specs.Operations.{operation_name, operation_body_name}

-- the item is a body of this name
abbrev pub is_body_of : List ℕ → BodyItem → Bool
is_body_of name (body_declaration one) = false
is_body_of name (body_protected body) = is_same_name name body.name.text
is_body_of name (body_task body) = is_same_name name body.name.text

-- these names hold that of what is declared, if it wants a body
abbrev pub wants_among : (List ℕ → Bool) → Declaration → Bool
wants_among has (a_protected_unit unit) = has unit.name.text
wants_among has (a_task task) = has task.name.text
wants_among has other = true

abbrev pub item_wants_among : (List ℕ → Bool) → BodyItem → Bool
item_wants_among has (body_declaration one) = wants_among has one
item_wants_among has other = true

-- one of these items is a body of this name
abbrev pub has_body : List BodyItem → List ℕ → Bool
has_body items name = list_any (is_body_of name) items

-- what a text declares has its body, if it wants one
abbrev pub unit_is_completed : UnitTree → Bool
unit_is_completed tree =
    list_all (wants_among (has_body tree.body.items)) tree.specification.declarations
    && list_all (item_wants_among (has_body tree.body.items)) tree.body.items

-- Operations of protected units (9.4)

-- the item is a protected body of this unit that has a body of this operation
abbrev pub is_operation_body_of : (unit operation : List ℕ) → BodyItem → Bool
is_operation_body_of unit operation (body_declaration one) = false
is_operation_body_of unit operation (body_protected body) =
    is_same_name unit body.name.text && list_any (λ b. is_same_name operation (operation_body_name b).text) body.operations
is_operation_body_of unit operation (body_task body) = false

abbrev pub has_operation_body : List BodyItem → (unit operation : List ℕ) → Bool
has_operation_body items unit operation = list_any (is_operation_body_of unit operation) items

-- these names hold that of the operation that is declared
abbrev pub operation_wants : (List ℕ → Bool) → OperationDeclaration → Bool
operation_wants has operation = unwrap_or (option_map (λ i. has i.text) (operation_name operation)) true

abbrev pub element_wants : (List ℕ → Bool) → ProtectedElement → Bool
element_wants has (an_operation operation) = operation_wants has operation
element_wants has (a_component names mark range initial) = true

abbrev pub private_wants : (List ℕ → Bool) → Option (List ProtectedElement) → Bool
private_wants has None = true
private_wants has (Some elements) = list_all (element_wants has) elements

abbrev pub unit_wants : (List ℕ → Bool) → ProtectedUnit → Bool
unit_wants has unit = list_all (operation_wants has) unit.operations && private_wants has unit.private

-- each operation of each protected unit has a body in a protected body of that unit
abbrev pub operations_are_completed : UnitTree → Bool
operations_are_completed tree =
    list_all (λ unit. unit_wants (has_operation_body tree.body.items unit.name.text) unit) (protected_units tree)

-- Sets of names

-- the names of bodies, each once
abbrev pub with_body : BodyItem → Region → Region
with_body (body_declaration one) names = names
with_body (body_protected body) names = insert_entry is_same_name names body.name.text None
with_body (body_task body) names = insert_entry is_same_name names body.name.text None

abbrev pub with_bodies : List BodyItem → Region → Region
with_bodies [] names = names
with_bodies (item ∷ more) names = with_bodies more (with_body item names)

-- the names of the bodies of operations, each once
abbrev pub with_operation_bodies : List OperationBody → Region → Region
with_operation_bodies [] names = names
with_operation_bodies (body ∷ more) names =
    with_operation_bodies more (insert_entry is_same_name names (operation_body_name body).text None)

-- the same of those in an item, if it is a protected body of this unit
abbrev pub with_bodies_of : List ℕ → BodyItem → Region → Region
with_bodies_of unit (body_declaration one) names = names
with_bodies_of unit (body_protected body) names =
    if is_same_name unit body.name.text then with_operation_bodies body.operations names else names
with_bodies_of unit (body_task body) names = names

abbrev pub with_all_bodies_of : List ℕ → List BodyItem → Region → Region
with_all_bodies_of unit [] names = names
with_all_bodies_of unit (item ∷ more) names = with_all_bodies_of unit more (with_bodies_of unit item names)

-- a name is among these
abbrev pub is_in : Region → List ℕ → Bool
is_in names name = is_some (named name names)
