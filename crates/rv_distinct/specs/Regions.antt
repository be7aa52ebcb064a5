-- The declarative regions of a text, and what each declares, in the order of the text (ISO/IEC 8652:2012, 8.1, 8.3).
use Rattle.std.specs.Prelude.{ℕ, Bool, true, ◌&&◌, not, List, [], ◌∷◌, ◌++◌, map, Option, Some, None}
use Rattle.std.specs.List.{flat_map, list_all, list_any}
use Rattle.std.specs.Option.{unwrap_or}
use Rattle.rv_text.specs.Names.{is_same_name}
use Rattle.rv_tree.specs.Names.{Identifier}
use Rattle.rv_tree.specs.Declarations.{Parameter, OperationDeclaration, ProtectedElement, an_operation, a_component, ProtectedUnit, Declaration, a_protected_unit}
use Rattle.rv_tree.specs.Bodies.{Block, OperationBody}
use Rattle.rv_tree.specs.Units.{BodyItem, body_declaration, body_protected, body_task, UnitTree}
use Rattle.rv_tree.specs.Operations.{operation_parameters, operation_body_parameters, operation_body_block}
use Rattle.rv_tree.specs.DeclaredNames.{declaration_names, operation_names, element_names, local_names}

-- one of these identifiers has the name
abbrev pub has_name : List Identifier → List ℕ → Bool
has_name identifiers name = list_any (λ i. is_same_name i.text name) identifiers

-- no two of them have the same name, case ignored
abbrev pub are_distinct : List Identifier → Bool
are_distinct [] = true
are_distinct (i ∷ behind) = not (has_name behind i.text) && are_distinct behind

-- a body completes a declaration, and declares nothing (3.11.1)
abbrev pub declared_by_item : BodyItem → List Identifier
declared_by_item (body_declaration one) = declaration_names one
declared_by_item (body_protected body) = []
declared_by_item (body_task body) = []

-- what the package declares, in its specification and in its body
abbrev pub package_region : UnitTree → List Identifier
package_region tree = flat_map declaration_names tree.specification.declarations ++ flat_map declared_by_item tree.body.items

abbrev pub parameter_names : List Parameter → List Identifier
parameter_names parameters = flat_map (λ p. p.names) parameters

-- parameters stand in a region of their own
abbrev pub profile_region : Option (List Parameter) → List (List Identifier)
profile_region None = []
profile_region (Some parameters) = parameter_names parameters ∷ []

abbrev pub profile_regions : OperationDeclaration → List (List Identifier)
profile_regions operation = profile_region (operation_parameters operation)

abbrev pub element_regions : ProtectedElement → List (List Identifier)
element_regions (an_operation operation) = profile_regions operation
element_regions (a_component names mark range initial) = []

-- what stands behind `private`
abbrev pub private_elements : ProtectedUnit → List ProtectedElement
private_elements unit = unwrap_or unit.private []

-- the operations and the components of a protected unit, before and behind `private`
abbrev pub member_names : ProtectedUnit → List Identifier
member_names unit = flat_map operation_names unit.operations ++ flat_map element_names (private_elements unit)

-- the region of a protected unit, and those of its operations
abbrev pub unit_regions : ProtectedUnit → List (List Identifier)
unit_regions unit =
    member_names unit ∷ (flat_map profile_regions unit.operations ++ flat_map element_regions (private_elements unit))

abbrev pub declaration_regions : Declaration → List (List Identifier)
declaration_regions (a_protected_unit unit) = unit_regions unit
declaration_regions other = []

abbrev pub block_names : Block → List Identifier
block_names block = flat_map local_names block.locals

-- the region of an operation's body: the parameters, and what its block declares
abbrev pub body_region : OperationBody → List Identifier
body_region body = parameter_names (operation_body_parameters body) ++ block_names (operation_body_block body)

abbrev pub item_regions : BodyItem → List (List Identifier)
item_regions (body_declaration one) = declaration_regions one
item_regions (body_protected body) = map body_region body.operations
item_regions (body_task body) = block_names body.block ∷ []

-- all regions that may declare more than one identifier: a loop parameter is alone in its own (5.5), and the profile has no
-- entries of tasks (D.7)
abbrev pub regions : UnitTree → List (List Identifier)
regions tree =
    package_region tree
    ∷ (flat_map declaration_regions tree.specification.declarations ++ flat_map item_regions tree.body.items)

-- no region of a text declares a name twice (8.3(26))
abbrev pub names_are_distinct : UnitTree → Bool
names_are_distinct tree = list_all are_distinct (regions tree)
