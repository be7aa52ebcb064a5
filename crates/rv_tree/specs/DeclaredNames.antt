-- The identifiers that a declaration declares, in the order of the text (ISO/IEC 8652:2012, 3.1). A pragma declares none.
use Rattle.std.specs.Prelude.{List, [], ◌∷◌, Option, Some, None}
use Rattle.rv_tree.specs.Names.{Identifier}
use Rattle.rv_tree.specs.Declarations.{OperationDeclaration, ProtectedElement, an_operation, a_component, Declaration, package_pragma, a_subtype, a_protected_unit, a_task, a_variable, a_constant}
use Rattle.rv_tree.specs.Bodies.{Local, an_object, local_pragma, local_protected_unit, local_task}
use Rattle.rv_tree.specs.Operations.{operation_name}

-- one, or none
abbrev pub at_most_one : Option Identifier → List Identifier
at_most_one None = []
at_most_one (Some i) = i ∷ []

abbrev pub operation_names : OperationDeclaration → List Identifier
operation_names o = at_most_one (operation_name o)

abbrev pub element_names : ProtectedElement → List Identifier
element_names (an_operation o) = operation_names o
element_names (a_component names mark range value) = names

abbrev pub declaration_names : Declaration → List Identifier
declaration_names (package_pragma p) = []
declaration_names (a_subtype at name mark range) = name ∷ []
declaration_names (a_protected_unit u) = u.name ∷ []
declaration_names (a_task t) = t.name ∷ []
declaration_names (a_variable names mark) = names
declaration_names (a_constant names mark value) = names

abbrev pub local_names : Local → List Identifier
local_names (an_object names is_constant mark range value) = names
local_names (local_pragma p) = []
local_names (local_protected_unit u) = u.name ∷ []
local_names (local_task t) = t.name ∷ []
