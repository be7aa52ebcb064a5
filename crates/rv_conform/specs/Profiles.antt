-- The profiles of operations, with what each mark denotes where it stands (ISO/IEC 8652:2012, 6.1, 8.3, 9.4, 9.5.2).
use Rattle.std.specs.Prelude.{ℕ, List, [], ◌∷◌, ◌++◌, Option, Some, None, map}
use Rattle.rv_tree.specs.Names.{Identifier, Name}
use Rattle.rv_tree.specs.declared.declaration.Mode.{Mode}
use Rattle.rv_tree.specs.Declarations.{Parameter, OperationDeclaration, ProtectedElement, an_operation, a_component, ProtectedUnit}
use Rattle.rv_tree.specs.DeclarationView.{maybe}
use Rattle.rv_tree.specs.Bodies.{OperationBody, function_body, procedure_body, entry_body}
use Rattle.rv_tree.specs.Operations.{operation_body_name, operation_body_parameters, operation_body_mark}
use Rattle.rv_static.specs.Meanings.{range_in}
use Rattle.rv_scope.specs.declared.declared.Declared.{Declared}
use Rattle.rv_scope.specs.declared.declared.Declared.TheVariants as d
use Rattle.rv_scope.specs.declared.declared.OperationKind.{OperationKind}
use Rattle.rv_scope.specs.declared.declared.OperationKind.TheVariants as kind
use Rattle.rv_scope.specs.declared.declare.Form.TheVariants as f
use Rattle.rv_scope.specs.Scope.{ScopeView, declaring_all, hiding_all, entered, in_body}
use Rattle.rv_scope.specs.Visible.{visible}
use Rattle.rv_scope.specs.Heads.{Head, declared_head}
use Rattle.rv_scope.specs.Statics.{Table, meaning_of}
use Rattle.rv_scope.specs.DeclarationUses.{with_parameters, with_operation, with_operations, with_element}
use Rattle.rv_conform.specs.declared.mark.Mark.{Mark}

-- What a body says of its operation

abbrev pub body_kind : OperationBody → OperationKind
body_kind (function_body at i parameters mark block) = kind.Function
body_kind (procedure_body at i parameters block) = kind.Procedure
body_kind (entry_body at i parameters barrier block) = kind.Entry

abbrev pub body_head : OperationBody → Head
body_head body = record {
  name = operation_body_name body;
  kind = body_kind body;
  parameters = operation_body_parameters body;
  mark = operation_body_mark body;
}

-- What it means where it stands

-- the subtype of the text that is declared, by its place
abbrev pub subtype_place : Option Declared → Option ℕ
subtype_place (Some (d.Subtype at)) = Some at
subtype_place other = None

-- what a mark denotes at a point: the subtype, if the text declares it, and its range, if that is static
abbrev pub mark_at : Table → ScopeView → Name → Mark
mark_at statics scope mark =
    record { declared = subtype_place (visible scope mark); range = range_in (meaning_of statics (visible scope mark)) }

-- a formal parameter
pub record Formal : Type 0 where
  pub name : List ℕ
  pub mode : Mode
  pub mark : Mark

abbrev pub formal_of : Mode → Mark → Identifier → Formal
formal_of mode mark i = record { name = i.text; mode = mode; mark = mark }

abbrev pub parameter_formals : Table → ScopeView → Parameter → List Formal
parameter_formals statics scope p = map (formal_of p.mode (mark_at statics (hiding_all p.names scope) p.mark)) p.names

-- the formal parameters of a profile whose parameters are declared in the innermost region, each behind its own declaration
abbrev pub formals_in : Table → ScopeView → List Parameter → List Formal
formals_in statics scope [] = []
formals_in statics scope (p ∷ more) =
    parameter_formals statics scope p
    ++ formals_in statics (declaring_all f.Parameter p.names (hiding_all p.names scope)) more

-- an operation with its profile
pub record Operation : Type 0 where
  pub name : Identifier
  pub kind : OperationKind
  pub formals : List Formal
  pub result_mark : Option Mark

-- the operation of a head whose parameters are declared in the innermost region
abbrev pub operation_in : Table → ScopeView → Head → Operation
operation_in statics scope head = record {
  name = head.name;
  kind = head.kind;
  formals = formals_in statics scope head.parameters;
  result_mark = maybe (mark_at statics (with_parameters head.parameters scope)) head.mark;
}

-- the body of an operation of the unit around the point
abbrev pub body_operation : Table → ScopeView → OperationBody → Operation
body_operation statics scope body = operation_in statics (in_body (body_head body).name scope) (body_head body)

-- The operations that a protected unit declares (9.4)

-- the parameters of a declaration stand in a region of their own
abbrev pub outer_operations : Table → ScopeView → Option Head → List Operation
outer_operations statics scope None = []
outer_operations statics scope (Some head) = operation_in statics (entered scope) head ∷ []

abbrev pub operations_declared : Table → ScopeView → List OperationDeclaration → List Operation
operations_declared statics scope [] = []
operations_declared statics scope (o ∷ more) =
    outer_operations statics scope (declared_head o) ++ operations_declared statics (with_operation o scope) more

abbrev pub element_declared : Table → ScopeView → ProtectedElement → List Operation
element_declared statics scope (an_operation o) = outer_operations statics scope (declared_head o)
element_declared statics scope (a_component names mark range initial) = []

abbrev pub elements_declared : Table → ScopeView → List ProtectedElement → List Operation
elements_declared statics scope [] = []
elements_declared statics scope (e ∷ more) =
    element_declared statics scope e ++ elements_declared statics (with_element e scope) more

abbrev pub private_declared : Table → ScopeView → Option (List ProtectedElement) → List Operation
private_declared statics scope None = []
private_declared statics scope (Some elements) = elements_declared statics scope elements

-- all operations of a protected unit, at a point within its declaration
abbrev pub unit_declared : Table → ScopeView → ProtectedUnit → List Operation
unit_declared statics scope unit =
    operations_declared statics (entered scope) unit.operations
    ++ private_declared statics (with_operations unit.operations (entered scope)) unit.private
