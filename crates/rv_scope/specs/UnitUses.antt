-- The names that bodies and whole unit texts use (ISO/IEC 8652:2012, 6.3, 7.2, 9.1, 9.4, 10.1, 11.2), in the order of the
-- text.
use Rattle.std.specs.Prelude.{ℕ, Bool, true, false, List, [], ◌∷◌, ◌++◌, Option, Some, None, slice_get}
use Rattle.rv_tree.specs.Names.{Identifier, Name}
use Rattle.rv_tree.specs.Declarations.{ProtectedUnit, Declaration, a_protected_unit}
use Rattle.rv_tree.specs.Bodies.{Local, an_object, local_pragma, local_protected_unit, local_task, ExceptionChoice, exception_named, other_exceptions, Handler, Block, OperationBody, function_body, procedure_body, entry_body, ProtectedBody, TaskBody}
use Rattle.rv_tree.specs.Operations.{operation_body_name, operation_body_parameters, operation_body_block}
use Rattle.rv_tree.specs.Units.{ContextItem, context_pragma, with_clause, use_clause, BodyItem, body_declaration, body_protected, body_task, UnitTree}
use Rattle.rv_shape.specs.Shape.{Shape}
use Rattle.rv_static.specs.Static.{◌>>=◌}
use Rattle.rv_scope.specs.declared.declared.Declared.{Declared}
use Rattle.rv_scope.specs.declared.declared.Declared.TheVariants as d
use Rattle.rv_scope.specs.declared.declare.Form.{Form}
use Rattle.rv_scope.specs.declared.declare.Form.TheVariants as f
use Rattle.rv_scope.specs.declared.predefined.Library.{Library}
use Rattle.rv_scope.specs.declared.predefined.Library.TheVariants as l
use Rattle.rv_scope.specs.declared.wanted.Wanted.{Wanted}
use Rattle.rv_scope.specs.declared.wanted.Wanted.TheVariants as w
use Rattle.rv_scope.specs.Scope.{ScopeView, declaring_all, hiding_all, in_body, within_unit, with_unit, with_library, using_library, empty_scope}
use Rattle.rv_scope.specs.Wanted.{denoted}
use Rattle.rv_scope.specs.ExpressionUses.{Use, ◌▷◌, nothing, simple, refused, value_uses, maybe_uses, range_uses}
use Rattle.rv_scope.specs.StatementUses.{statements_uses}
use Rattle.rv_scope.specs.DeclarationUses.{parameters_uses, with_parameters, with_members, declaration_uses, with_declaration, declarations_uses, with_declarations}

-- Blocks (6.3, 11.2)

-- what the identifiers of a block's declaration denote
abbrev pub local_form : Bool → Form
local_form true = f.Constant
local_form false = f.Variable

-- a protected unit or a task of a block has no body
abbrev pub local_uses : {A : Type 0} → Use A → ScopeView → Local → A → A
local_uses at_use scope (an_object names is_constant mark range initial) =
    at_use (hiding_all names scope) w.Subtype mark ▷ maybe_uses (range_uses at_use (hiding_all names scope)) range
    ▷ maybe_uses (value_uses at_use (hiding_all names scope)) initial
local_uses at_use scope (local_pragma pragma) = nothing
local_uses at_use scope (local_protected_unit unit) = refused at_use scope unit.at
local_uses at_use scope (local_task task) = refused at_use scope task.at

abbrev pub with_local : Local → ScopeView → ScopeView
with_local (an_object names is_constant mark range initial) scope =
    declaring_all (local_form is_constant) names (hiding_all names scope)
with_local (local_pragma pragma) scope = scope
with_local (local_protected_unit unit) scope = scope
with_local (local_task task) scope = scope

abbrev pub locals_uses : {A : Type 0} → Use A → ScopeView → List Local → A → A
locals_uses at_use scope [] = nothing
locals_uses at_use scope (one ∷ more) = local_uses at_use scope one ▷ locals_uses at_use (with_local one scope) more

abbrev pub with_locals : List Local → ScopeView → ScopeView
with_locals [] scope = scope
with_locals (one ∷ more) scope = with_locals more (with_local one scope)

abbrev pub exception_uses : {A : Type 0} → Use A → ScopeView → ExceptionChoice → A → A
exception_uses at_use scope (exception_named name) = at_use scope w.Exception name
exception_uses at_use scope (other_exceptions at) = nothing

abbrev pub exceptions_uses : {A : Type 0} → Use A → ScopeView → List ExceptionChoice → A → A
exceptions_uses at_use scope [] = nothing
exceptions_uses at_use scope (choice ∷ more) = exception_uses at_use scope choice ▷ exceptions_uses at_use scope more

abbrev pub handlers_uses : {A : Type 0} → Use A → ScopeView → List Handler → A → A
handlers_uses at_use scope [] = nothing
handlers_uses at_use scope (handler ∷ more) =
    exceptions_uses at_use scope handler.choices ▷ statements_uses at_use scope handler.statements ▷ handlers_uses at_use scope more

abbrev pub block_uses : {A : Type 0} → Use A → ScopeView → Block → A → A
block_uses at_use scope block =
    locals_uses at_use scope block.locals
    ▷ statements_uses at_use (with_locals block.locals scope) block.statements
    ▷ handlers_uses at_use (with_locals block.locals scope) block.handlers

-- Bodies of operations, protected units and tasks (9.1, 9.4)

-- the declaration that a body of an operation wants
abbrev pub body_wanted : OperationBody → Wanted
body_wanted (function_body at i parameters mark block) = w.FunctionBody
body_wanted (procedure_body at i parameters block) = w.ProcedureBody
body_wanted (entry_body at i parameters barrier block) = w.EntryBody

abbrev pub mark_or_barrier_uses : {A : Type 0} → Use A → ScopeView → OperationBody → A → A
mark_or_barrier_uses at_use scope (function_body at i parameters mark block) = at_use scope w.Subtype mark
mark_or_barrier_uses at_use scope (procedure_body at i parameters block) = nothing
mark_or_barrier_uses at_use scope (entry_body at i parameters barrier block) = value_uses at_use scope barrier

-- the parameters are declared in the region of the body, and those of an entry in its barrier too (9.5.2)
abbrev pub with_profile : OperationBody → ScopeView → ScopeView
with_profile body scope = with_parameters (operation_body_parameters body) (in_body (operation_body_name body) scope)

abbrev pub operation_body_uses : {A : Type 0} → Use A → ScopeView → OperationBody → A → A
operation_body_uses at_use scope body =
    at_use scope (body_wanted body) (simple (operation_body_name body))
    ▷ parameters_uses at_use (in_body (operation_body_name body) scope) (operation_body_parameters body)
    ▷ mark_or_barrier_uses at_use (with_profile body scope) body
    ▷ block_uses at_use (with_profile body scope) (operation_body_block body)

abbrev pub operation_bodies_uses : {A : Type 0} → Use A → ScopeView → List OperationBody → A → A
operation_bodies_uses at_use scope [] = nothing
operation_bodies_uses at_use scope (body ∷ more) =
    operation_body_uses at_use scope body ▷ operation_bodies_uses at_use scope more

-- in the body of a protected unit all its members are declared, and it is the current one
abbrev pub in_protected_unit : ProtectedUnit → ScopeView → ScopeView
in_protected_unit unit scope = within_unit unit.name.at (with_members unit scope)

-- the number of the protected unit that is declared, if it is one
abbrev pub unit_number : Option Declared → Option ℕ
unit_number (Some (d.ProtectedType at number)) = Some number
unit_number (Some (d.SingleProtected at number)) = Some number
unit_number other = None

-- the protected unit of a number, with that number, if there is one
abbrev pub numbered_unit : List ProtectedUnit → ℕ → Option (ℕ × ProtectedUnit)
numbered_unit units number = slice_get units number >>= λ unit. Some (number, unit)

-- the protected unit that a body of this name completes, with its number, if there is one; the protected units of the text
-- stand in the order of their numbers
abbrev pub unit_of_body : List ProtectedUnit → ScopeView → Identifier → Option (ℕ × ProtectedUnit)
unit_of_body units scope name = unit_number (denoted w.ProtectedBody scope (simple name)) >>= numbered_unit units

abbrev pub bodies_of_unit : {A : Type 0} → Use A → ScopeView → List OperationBody → Option (ℕ × ProtectedUnit) → A → A
bodies_of_unit at_use scope bodies None = nothing
bodies_of_unit at_use scope bodies (Some numbered) = operation_bodies_uses at_use (in_protected_unit numbered.1 scope) bodies

abbrev pub protected_body_uses : {A : Type 0} → Use A → List ProtectedUnit → ScopeView → ProtectedBody → A → A
protected_body_uses at_use units scope body =
    at_use scope w.ProtectedBody (simple body.name)
    ▷ bodies_of_unit at_use scope body.operations (unit_of_body units scope body.name)

abbrev pub task_body_uses : {A : Type 0} → Use A → ScopeView → TaskBody → A → A
task_body_uses at_use scope body =
    at_use scope w.TaskBody (simple body.name) ▷ block_uses at_use (in_body body.name scope) body.block

-- The package body (7.2)

abbrev pub body_item_uses : {A : Type 0} → Use A → List ProtectedUnit → ScopeView → BodyItem → A → A
body_item_uses at_use units scope (body_declaration one) = declaration_uses at_use scope one
body_item_uses at_use units scope (body_protected body) = protected_body_uses at_use units scope body
body_item_uses at_use units scope (body_task body) = task_body_uses at_use scope body

abbrev pub with_body_item : BodyItem → ScopeView → ScopeView
with_body_item (body_declaration one) scope = with_declaration one scope
with_body_item (body_protected body) scope = scope
with_body_item (body_task body) scope = scope

abbrev pub body_items_uses : {A : Type 0} → Use A → List ProtectedUnit → ScopeView → List BodyItem → A → A
body_items_uses at_use units scope [] = nothing
body_items_uses at_use units scope (one ∷ more) =
    body_item_uses at_use units scope one ▷ body_items_uses at_use units (with_body_item one scope) more

-- Context clauses (8.4, 10.1.2)

-- the packages that hold a package
abbrev pub with_parents : Library → ScopeView → ScopeView
with_parents l.RealTime scope = with_library l.Ada scope
with_parents l.SynchronousTaskControl scope = with_library l.Ada scope
with_parents l.Interrupts scope = with_library l.Ada scope
with_parents l.InterruptNames scope = with_library l.Interrupts (with_library l.Ada scope)
with_parents other scope = scope

-- a `with` names a unit, or a library package, whose parents it names too (10.1.2)
abbrev pub withed : Option Declared → ScopeView → ScopeView
withed (Some (d.Unit index)) scope = with_unit index scope
withed (Some (d.LibraryPackage library)) scope = with_library library (with_parents library scope)
withed other scope = scope

-- a `use` names a library package (8.4)
abbrev pub used_by : Option Declared → ScopeView → ScopeView
used_by (Some (d.LibraryPackage library)) scope = using_library library scope
used_by other scope = scope

abbrev pub with_names_uses : {A : Type 0} → Use A → ScopeView → List Name → A → A
with_names_uses at_use scope [] = nothing
with_names_uses at_use scope (name ∷ more) =
    at_use scope w.With name ▷ with_names_uses at_use (withed (denoted w.With scope name) scope) more

abbrev pub with_names : List Name → ScopeView → ScopeView
with_names [] scope = scope
with_names (name ∷ more) scope = with_names more (withed (denoted w.With scope name) scope)

abbrev pub use_names_uses : {A : Type 0} → Use A → ScopeView → List Name → A → A
use_names_uses at_use scope [] = nothing
use_names_uses at_use scope (name ∷ more) =
    at_use scope w.Use name ▷ use_names_uses at_use (used_by (denoted w.Use scope name) scope) more

abbrev pub use_names : List Name → ScopeView → ScopeView
use_names [] scope = scope
use_names (name ∷ more) scope = use_names more (used_by (denoted w.Use scope name) scope)

-- a `use type` is read and has no effect: its names are not looked up (own)
abbrev pub context_item_uses : {A : Type 0} → Use A → ScopeView → ContextItem → A → A
context_item_uses at_use scope (context_pragma pragma) = nothing
context_item_uses at_use scope (with_clause at names) = with_names_uses at_use scope names
context_item_uses at_use scope (use_clause at true names) = nothing
context_item_uses at_use scope (use_clause at false names) = use_names_uses at_use scope names

abbrev pub with_context_item : ContextItem → ScopeView → ScopeView
with_context_item (context_pragma pragma) scope = scope
with_context_item (with_clause at names) scope = with_names names scope
with_context_item (use_clause at true names) scope = scope
with_context_item (use_clause at false names) scope = use_names names scope

abbrev pub context_uses : {A : Type 0} → Use A → ScopeView → List ContextItem → A → A
context_uses at_use scope [] = nothing
context_uses at_use scope (item ∷ more) = context_item_uses at_use scope item ▷ context_uses at_use (with_context_item item scope) more

abbrev pub with_context : List ContextItem → ScopeView → ScopeView
with_context [] scope = scope
with_context (item ∷ more) scope = with_context more (with_context_item item scope)

-- Whole texts

-- what is declared where the package begins
abbrev pub package_scope : List Shape → UnitTree → ScopeView
package_scope shapes tree = with_context tree.context (empty_scope tree.specification.name.text shapes)

-- these protected units, and behind them the one that is declared, if one is
abbrev pub unit_onto : List ProtectedUnit → Declaration → List ProtectedUnit
unit_onto done (a_protected_unit unit) = done ++ unit ∷ []
unit_onto done other = done

abbrev pub item_onto : List ProtectedUnit → BodyItem → List ProtectedUnit
item_onto done (body_declaration one) = unit_onto done one
item_onto done other = done

-- the same, of all declarations
abbrev pub units_onto : List ProtectedUnit → List Declaration → List ProtectedUnit
units_onto done [] = done
units_onto done (one ∷ more) = units_onto (unit_onto done one) more

abbrev pub items_onto : List ProtectedUnit → List BodyItem → List ProtectedUnit
items_onto done [] = done
items_onto done (one ∷ more) = items_onto (item_onto done one) more

-- the protected units of a text, in the order of their numbers
abbrev pub protected_units : UnitTree → List ProtectedUnit
protected_units tree = items_onto (units_onto [] tree.specification.declarations) tree.body.items

-- all names that a unit text uses, in the order of the text
abbrev pub unit_uses : {A : Type 0} → Use A → List Shape → UnitTree → A → A
unit_uses at_use shapes tree =
    context_uses at_use (empty_scope tree.specification.name.text shapes) tree.context
    ▷ declarations_uses at_use (package_scope shapes tree) tree.specification.declarations
    ▷ at_use (with_declarations tree.specification.declarations (package_scope shapes tree)) w.PackageBody (simple tree.body.name)
    ▷ body_items_uses at_use (protected_units tree) (with_declarations tree.specification.declarations (package_scope shapes tree)) tree.body.items
