-- What a package and its protected units declare, by name (ISO/IEC 8652:2012, 8.3).
use Rattle.std.specs.Prelude.{ℕ, nat_lt, Bool, true, false, ◌||◌, ◌&&◌, not, if◌then◌else◌, List, [], ◌∷◌, Option, Some, None}
use Rattle.std.specs.List.{list_any}
use Rattle.rv_text.specs.Names.{is_same_name}
use Rattle.rv_tree.specs.Names.{Identifier, Name}
use Rattle.rv_tree.specs.Declarations.{Parameter, OperationDeclaration, ProtectedElement, an_operation, a_component, ProtectedUnit, Declaration, package_pragma, a_subtype, a_protected_unit, a_task, a_variable, a_constant}
use Rattle.rv_tree.specs.Bodies.{Local, an_object, local_pragma, local_protected_unit, local_task}
use Rattle.rv_tree.specs.DeclaredNames.{declaration_names, operation_names, element_names, local_names}
use Rattle.rv_tree.specs.Units.{BodyItem, body_declaration, body_protected, body_task, UnitTree}

-- a name is among these
abbrev pub is_among : List ℕ → List Identifier → Bool
is_among n names = list_any (λ i. is_same_name i.text n) names

-- a parameter has the name
abbrev pub is_parameter : List ℕ → List Parameter → Bool
is_parameter n parameters = list_any (λ p. is_among n p.names) parameters

-- this declaration has the name
abbrev pub declares : List ℕ → Declaration → Bool
declares n d = is_among n (declaration_names d)

-- the first of these that has the name
abbrev pub first_declared : List ℕ → List Declaration → Option Declaration
first_declared n [] = None
first_declared n (d ∷ more) = if declares n d then Some d else first_declared n more

-- the declarations of a package's body
abbrev pub declarations_of : List BodyItem → List Declaration
declarations_of [] = []
declarations_of (body_declaration d ∷ more) = d ∷ declarations_of more
declarations_of (body_protected b ∷ more) = declarations_of more
declarations_of (body_task b ∷ more) = declarations_of more

abbrev pub or_else : Option Declaration → Option Declaration → Option Declaration
or_else None other = other
or_else (Some d) other = Some d

-- what the package declares by this name, in its specification or else in its body
unfoldable pub declared : UnitTree → List ℕ → Option Declaration
declared tree n =
    or_else (first_declared n tree.specification.declarations) (first_declared n (declarations_of tree.body.items))

-- there is such a declaration
abbrev pub is_declaration : Option Declaration → Bool
is_declaration None = false
is_declaration (Some d) = true

-- the protected unit that it declares
abbrev pub unit_of : Option Declaration → Option ProtectedUnit
unit_of None = None
unit_of (Some (package_pragma p)) = None
unit_of (Some (a_subtype at i mark range)) = None
unit_of (Some (a_protected_unit u)) = Some u
unit_of (Some (a_task t)) = None
unit_of (Some (a_variable names mark)) = None
unit_of (Some (a_constant names mark e)) = None

-- it declares a constant or a subtype
abbrev pub is_fixed : Option Declaration → Bool
is_fixed None = false
is_fixed (Some (package_pragma p)) = false
is_fixed (Some (a_subtype at i mark range)) = true
is_fixed (Some (a_protected_unit u)) = false
is_fixed (Some (a_task t)) = false
is_fixed (Some (a_variable names mark)) = false
is_fixed (Some (a_constant names mark e)) = true

-- an operation has the name
abbrev pub is_among_operations : List ℕ → List OperationDeclaration → Bool
is_among_operations n operations = list_any (λ o. is_among n (operation_names o)) operations

-- a component or an operation after `private` has the name
abbrev pub is_among_elements : List ℕ → List ProtectedElement → Bool
is_among_elements n elements = list_any (λ e. is_among n (element_names e)) elements

-- a component has the name
abbrev pub is_component : List ℕ → ProtectedElement → Bool
is_component n (an_operation o) = false
is_component n (a_component names mark range value) = is_among n names

abbrev pub is_among_components : List ℕ → List ProtectedElement → Bool
is_among_components n elements = list_any (is_component n) elements

-- what stands after `private`
abbrev pub elements_of : Option (List ProtectedElement) → List ProtectedElement
elements_of None = []
elements_of (Some elements) = elements

-- the protected unit has a component of this name
abbrev pub has_component : Option ProtectedUnit → List ℕ → Bool
has_component None n = false
has_component (Some u) n = is_among_components n (elements_of u.private)

-- the protected unit declares this name
abbrev pub declares_inside : Option ProtectedUnit → List ℕ → Bool
declares_inside None n = false
declares_inside (Some u) n = is_among_operations n u.operations || is_among_elements n (elements_of u.private)

-- a parameter of the operation or a declaration of its protected unit hides what the package or another one declares by this
-- name; in a task there is neither
abbrev pub is_hidden : UnitTree → List ℕ → List Parameter → List ℕ → Bool
is_hidden tree unit parameters n = is_parameter n parameters || declares_inside (unit_of (declared tree unit)) n

-- nor does the package declare the name, so that it is that of a package
abbrev pub is_package_name : UnitTree → List ℕ → List Parameter → List ℕ → Bool
is_package_name tree unit parameters n = not (is_hidden tree unit parameters n) && not (is_declaration (declared tree n))

-- a name is among these, before a place
abbrev pub is_among_before : ℕ → List ℕ → List Identifier → Bool
is_among_before at n names = list_any (λ i. nat_lt i.at at && is_same_name i.text n) names

-- a declaration of the block before a place hides the name
abbrev pub is_among_locals : ℕ → List ℕ → List Local → Bool
is_among_locals at n locals = list_any (λ one. is_among_before at n (local_names one)) locals

-- it is a protected type
abbrev pub is_type : Local → Bool
is_type (an_object names is_constant mark range value) = false
is_type (local_pragma p) = false
is_type (local_protected_unit u) = u.is_type
is_type (local_task t) = false

-- it is a protected type of this name, before a place
abbrev pub is_local_type : ℕ → List ℕ → Local → Bool
is_local_type at n (an_object names is_constant mark range value) = false
is_local_type at n (local_pragma p) = false
is_local_type at n (local_protected_unit u) = u.is_type && nat_lt u.name.at at && is_same_name u.name.text n
is_local_type at n (local_task t) = false

abbrev pub is_among_local_types : ℕ → List ℕ → List Local → Bool
is_among_local_types at n locals = list_any (is_local_type at n) locals

-- the protected unit is a type that is declared before a place
abbrev pub is_type_before : ℕ → Option ProtectedUnit → Bool
is_type_before at None = false
is_type_before at (Some u) = u.is_type && nat_lt u.name.at at

-- what a mark names in a block with these declarations: alone the block's own type, else the package's that nothing hides; behind
-- the name of the package, which nothing hides either, the package's
abbrev pub type_named : UnitTree → List ℕ → List Parameter → List Local → Name → List Identifier → Bool
type_named tree unit parameters locals mark [] =
    is_among_local_types mark.first.at mark.first.text locals
    || (is_type_before mark.first.at (unit_of (declared tree mark.first.text))
    && not (is_hidden tree unit parameters mark.first.text) && not (is_among_locals mark.first.at mark.first.text locals))
type_named tree unit parameters locals mark (i ∷ []) =
    is_same_name mark.first.text tree.specification.name.text && is_type_before mark.first.at (unit_of (declared tree i.text))
    && is_package_name tree unit parameters mark.first.text && not (is_among_locals mark.first.at mark.first.text locals)
type_named tree unit parameters locals mark (i ∷ j ∷ more) = false

-- a mark names a protected type of the package or of its block, as `Type` or `Unit.Type`, in the body of an operation with
-- these parameters of the protected unit of this name, or of the task of this name
unfoldable pub names_protected_type : UnitTree → List ℕ → List Parameter → List Local → Name → Bool
names_protected_type tree unit parameters locals mark = type_named tree unit parameters locals mark mark.more
