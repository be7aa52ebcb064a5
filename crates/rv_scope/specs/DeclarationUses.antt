-- The names that declarations use, and what they declare (ISO/IEC 8652:2012, 3.2.2, 3.3.1, 6.1, 9.1, 9.4), in the order of
-- the text.
use Rattle.std.specs.Prelude.{ℕ, Bool, true, false, ◌||◌, if◌then◌else◌, List, [], ◌∷◌, Option, Some, None, length, codes}
use Rattle.indexmap.specs.IndexMap.{insert_entry}
use Rattle.rv_text.specs.Names.{is_same_name}
use Rattle.rv_tree.specs.Names.{Identifier}
use Rattle.rv_tree.specs.Declarations.{PragmaArgument, Pragma, Aspect, Parameter, OperationDeclaration, a_pragma, a_function, a_procedure, an_entry, ProtectedElement, an_operation, a_component, ProtectedUnit, TaskItem, task_pragma, task_entry, TaskDefinition, TaskUnit, Declaration, package_pragma, a_subtype, a_protected_unit, a_task, a_variable, a_constant}
use Rattle.rv_scope.specs.declared.declared.Declared.{Declared}
use Rattle.rv_scope.specs.declared.declared.Declared.TheVariants as d
use Rattle.rv_scope.specs.declared.declared.OperationKind.{OperationKind}
use Rattle.rv_scope.specs.declared.declared.OperationKind.TheVariants as kind
use Rattle.rv_scope.specs.declared.declare.Form.{Form}
use Rattle.rv_scope.specs.declared.declare.Form.TheVariants as f
use Rattle.rv_scope.specs.declared.wanted.Wanted.{Wanted}
use Rattle.rv_scope.specs.declared.wanted.Wanted.TheVariants as w
use Rattle.rv_scope.specs.Scope.{ScopeView, declaring, declaring_all, hiding, hiding_all, entered, within_unit, showing, Region}
use Rattle.rv_static.specs.Static.{◌>>=◌}
use Rattle.rv_scope.specs.Visible.{visible}
use Rattle.rv_scope.specs.Heads.{declared_head}
use Rattle.rv_scope.specs.ExpressionUses.{Use, ◌▷◌, nothing, refused, expression_uses, value_uses, maybe_uses, range_uses}

-- Pragmas and aspects (2.8, 13.1.1)

-- the pragmas and aspects that give a priority (D.1, D.3)
abbrev pub is_priority : List ℕ → Bool
is_priority name = is_same_name name (codes "Priority") || is_same_name name (codes "Interrupt_Priority")

-- those that attach a procedure to a line (C.3.1)
abbrev pub is_attachment : List ℕ → Bool
is_attachment name = is_same_name name (codes "Attach_Handler")

-- the names that arguments use, all but the first one's being values
abbrev pub arguments_uses : {A : Type 0} → Use A → ScopeView → Wanted → List PragmaArgument → A → A
arguments_uses at_use scope first [] = nothing
arguments_uses at_use scope first (argument ∷ more) =
    expression_uses at_use scope first argument.value ▷ arguments_uses at_use scope w.Value more

-- the names that a pragma of a protected unit or a task uses: none where the pragma has no effect
abbrev pub pragma_uses : {A : Type 0} → Use A → ScopeView → Pragma → A → A
pragma_uses at_use scope pragma =
    if is_priority pragma.name.text then arguments_uses at_use scope w.Value pragma.arguments
    else if is_attachment pragma.name.text then arguments_uses at_use scope w.Handler pragma.arguments
    else nothing

abbrev pub aspects_uses : {A : Type 0} → Use A → ScopeView → List Aspect → A → A
aspects_uses at_use scope [] = nothing
aspects_uses at_use scope (aspect ∷ more) = maybe_uses (value_uses at_use scope) aspect.value ▷ aspects_uses at_use scope more

-- Parameters (6.1)

-- the marks of parameters; each parameter is declared behind its own
abbrev pub parameters_uses : {A : Type 0} → Use A → ScopeView → List Parameter → A → A
parameters_uses at_use scope [] = nothing
parameters_uses at_use scope (p ∷ more) =
    at_use (hiding_all p.names scope) w.Subtype p.mark
    ▷ parameters_uses at_use (declaring_all f.Parameter p.names (hiding_all p.names scope)) more

abbrev pub with_parameters : List Parameter → ScopeView → ScopeView
with_parameters [] scope = scope
with_parameters (p ∷ more) scope = with_parameters more (declaring_all f.Parameter p.names (hiding_all p.names scope))

-- Protected units and tasks (9.1, 9.4)

-- an operation of the unit around the point is declared
abbrev pub declaring_operation : OperationKind → Identifier → ScopeView → ScopeView
declaring_operation of i scope = declaring (λ at. d.Operation at of) i scope

-- the identifier of an operation isn't declared yet in its own profile, where what it hides is visible (8.2)
abbrev pub operation_uses : {A : Type 0} → Use A → ScopeView → OperationDeclaration → A → A
operation_uses at_use scope (a_pragma pragma) = pragma_uses at_use scope pragma
operation_uses at_use scope (a_function at i parameters mark) =
    parameters_uses at_use (entered scope) parameters ▷ at_use (with_parameters parameters (entered scope)) w.Subtype mark
operation_uses at_use scope (a_procedure at i parameters aspects) =
    parameters_uses at_use (entered scope) parameters ▷ aspects_uses at_use (hiding i scope) aspects
operation_uses at_use scope (an_entry entry) = parameters_uses at_use (entered scope) entry.parameters

-- the identifier that the declaration of an operation declares, and the operation's kind
abbrev pub declared_operation : OperationDeclaration → Option (Identifier × OperationKind)
declared_operation o = declared_head o >>= λ head. Some (head.name, head.kind)

-- an operation of this identifier and kind is declared, behind its declaration, in which the identifier is hidden
abbrev pub naming_operation : Option (Identifier × OperationKind) → ScopeView → ScopeView
naming_operation None scope = scope
naming_operation (Some named) scope = declaring_operation named.1 named.0 (hiding named.0 scope)

abbrev pub with_operation : OperationDeclaration → ScopeView → ScopeView
with_operation o scope = naming_operation (declared_operation o) scope

abbrev pub operations_uses : {A : Type 0} → Use A → ScopeView → List OperationDeclaration → A → A
operations_uses at_use scope [] = nothing
operations_uses at_use scope (o ∷ more) = operation_uses at_use scope o ▷ operations_uses at_use (with_operation o scope) more

abbrev pub with_operations : List OperationDeclaration → ScopeView → ScopeView
with_operations [] scope = scope
with_operations (o ∷ more) scope = with_operations more (with_operation o scope)

abbrev pub element_uses : {A : Type 0} → Use A → ScopeView → ProtectedElement → A → A
element_uses at_use scope (an_operation o) = operation_uses at_use scope o
element_uses at_use scope (a_component names mark range start) =
    at_use (hiding_all names scope) w.Subtype mark ▷ maybe_uses (range_uses at_use (hiding_all names scope)) range
    ▷ maybe_uses (value_uses at_use (hiding_all names scope)) start

abbrev pub with_element : ProtectedElement → ScopeView → ScopeView
with_element (an_operation o) scope = with_operation o scope
with_element (a_component names mark range start) scope = declaring_all f.Component names (hiding_all names scope)

abbrev pub elements_uses : {A : Type 0} → Use A → ScopeView → List ProtectedElement → A → A
elements_uses at_use scope [] = nothing
elements_uses at_use scope (e ∷ more) = element_uses at_use scope e ▷ elements_uses at_use (with_element e scope) more

abbrev pub with_elements : List ProtectedElement → ScopeView → ScopeView
with_elements [] scope = scope
with_elements (e ∷ more) scope = with_elements more (with_element e scope)

abbrev pub private_uses : {A : Type 0} → Use A → ScopeView → Option (List ProtectedElement) → A → A
private_uses at_use scope None = nothing
private_uses at_use scope (Some elements) = elements_uses at_use scope elements

abbrev pub with_private : Option (List ProtectedElement) → ScopeView → ScopeView
with_private None scope = scope
with_private (Some elements) scope = with_elements elements scope

-- all operations and components of a protected unit are declared, in a region of their own
abbrev pub with_members : ProtectedUnit → ScopeView → ScopeView
with_members unit scope = with_private unit.private (with_operations unit.operations (entered scope))

-- what a protected unit of this number declares: a type, or a single object
abbrev pub protected_meaning : Bool → ℕ → ℕ → Declared
protected_meaning true number at = d.ProtectedType at number
protected_meaning false number at = d.SingleProtected at number

-- the identifier of a protected unit is declared: it denotes the unit within its own declaration too (8.3)
abbrev pub naming_unit : ProtectedUnit → ScopeView → ScopeView
naming_unit unit scope = declaring (protected_meaning unit.is_type (length scope.shown)) unit.name (hiding unit.name scope)

-- the parts of a protected unit, whose operations and components stand in a region of their own
abbrev pub parts_uses : {A : Type 0} → Use A → ScopeView → ProtectedUnit → A → A
parts_uses at_use scope unit =
    aspects_uses at_use scope unit.aspects
    ▷ operations_uses at_use (entered scope) unit.operations
    ▷ private_uses at_use (with_operations unit.operations (entered scope)) unit.private

abbrev pub protected_unit_uses : {A : Type 0} → Use A → ScopeView → ProtectedUnit → A → A
protected_unit_uses at_use scope unit = parts_uses at_use (within_unit unit.name.at (naming_unit unit scope)) unit

-- the operations that a region shows, with one of this identifier and kind
abbrev pub showing_operation : Option (Identifier × OperationKind) → Region → Region
showing_operation None region = region
showing_operation (Some named) region =
    insert_entry is_same_name region named.0.text (Some (d.Operation named.0.at named.1))

abbrev pub with_shown : OperationDeclaration → Region → Region
with_shown o region = showing_operation (declared_operation o) region

abbrev pub with_all_shown : List OperationDeclaration → Region → Region
with_all_shown [] region = region
with_all_shown (o ∷ more) region = with_all_shown more (with_shown o region)

-- and behind its declaration what others see of it: its operations before `private` (9.4)
abbrev pub declaring_protected_unit : ProtectedUnit → ScopeView → ScopeView
declaring_protected_unit unit scope = showing (with_all_shown unit.operations []) (naming_unit unit scope)

abbrev pub task_item_uses : {A : Type 0} → Use A → ScopeView → TaskItem → A → A
task_item_uses at_use scope (task_pragma pragma) = pragma_uses at_use scope pragma
task_item_uses at_use scope (task_entry entry) = refused at_use scope entry.at

abbrev pub task_items_uses : {A : Type 0} → Use A → ScopeView → List TaskItem → A → A
task_items_uses at_use scope [] = nothing
task_items_uses at_use scope (item ∷ more) = task_item_uses at_use scope item ▷ task_items_uses at_use scope more

abbrev pub definition_uses : {A : Type 0} → Use A → ScopeView → Option TaskDefinition → A → A
definition_uses at_use scope None = nothing
definition_uses at_use scope (Some definition) = task_items_uses at_use scope definition.items

abbrev pub task_uses : {A : Type 0} → Use A → ScopeView → TaskUnit → A → A
task_uses at_use scope task =
    aspects_uses at_use (hiding task.name scope) task.aspects ▷ definition_uses at_use (hiding task.name scope) task.definition

abbrev pub declaring_task : TaskUnit → ScopeView → ScopeView
declaring_task task scope = declaring d.Task task.name (hiding task.name scope)

-- Packages (7.1)

-- what a package's variable denotes, by what its mark denotes: an object of a protected type, else a suspension object
abbrev pub object_form : Option Declared → Form
object_form (Some (d.ProtectedType at number)) = f.ProtectedObject number
object_form mark = f.Suspension

abbrev pub declaration_uses : {A : Type 0} → Use A → ScopeView → Declaration → A → A
declaration_uses at_use scope (package_pragma pragma) = nothing
declaration_uses at_use scope (a_subtype at i mark range) =
    at_use (hiding i scope) w.Subtype mark ▷ maybe_uses (range_uses at_use (hiding i scope)) range
declaration_uses at_use scope (a_protected_unit unit) = protected_unit_uses at_use scope unit
declaration_uses at_use scope (a_task task) = task_uses at_use scope task
declaration_uses at_use scope (a_variable names mark) = at_use (hiding_all names scope) w.ObjectType mark
declaration_uses at_use scope (a_constant names mark initial) =
    maybe_uses (at_use (hiding_all names scope) w.Subtype) mark ▷ value_uses at_use (hiding_all names scope) initial

abbrev pub with_declaration : Declaration → ScopeView → ScopeView
with_declaration (package_pragma pragma) scope = scope
with_declaration (a_subtype at i mark range) scope = declaring d.Subtype i (hiding i scope)
with_declaration (a_protected_unit unit) scope = declaring_protected_unit unit scope
with_declaration (a_task task) scope = declaring_task task scope
with_declaration (a_variable names mark) scope =
    declaring_all (object_form (visible (hiding_all names scope) mark)) names (hiding_all names scope)
with_declaration (a_constant names mark initial) scope = declaring_all f.Constant names (hiding_all names scope)

abbrev pub declarations_uses : {A : Type 0} → Use A → ScopeView → List Declaration → A → A
declarations_uses at_use scope [] = nothing
declarations_uses at_use scope (one ∷ more) =
    declaration_uses at_use scope one ▷ declarations_uses at_use (with_declaration one scope) more

abbrev pub with_declarations : List Declaration → ScopeView → ScopeView
with_declarations [] scope = scope
with_declarations (one ∷ more) scope = with_declarations more (with_declaration one scope)
