-- The bodies of a unit (ISO/IEC 8652:2012, 6.1, 6.3, 7.2, 9.1, 9.4, 9.5.2).
use Rattle.std.specs.Prelude.{ℕ, ◌+◌, ◌==◌, Bool, true, false, is_some, nat_lt, ◌||◌, if◌then◌else◌, List, [], ◌∷◌, ◌++◌, length, Option, Some, None, slice_get, slice_set}
use Rattle.rv_text.specs.Names.{is_same_name}
use Rattle.rv_tree.specs.Names.{Identifier, Name}
use Rattle.rv_tree.specs.Declarations.{Parameter, ProtectedUnit}
use Rattle.rv_tree.specs.Bodies.{Block, OperationBody, ProtectedBody, TaskBody}
use Rattle.rv_tree.specs.Units.{ContextItem, context_pragma, with_clause, use_clause, BodyItem, body_declaration, body_protected, body_task, UnitTree}
use Rattle.rv_tree.specs.Operations.{operation_body_name, operation_body_parameters, operation_body_block}
use Rattle.rv_shape.specs.declared.kind.Range.{Range}
use Rattle.rv_shape.specs.declared.kind.Parameter as shape
use Rattle.rv_shape.specs.declared.kind.Kind.{Kind}
use Rattle.rv_shape.specs.declared.kind.Kind.TheVariants as kind
use Rattle.rv_shape.specs.Kinds.{goes_out}
use Rattle.rv_shape.specs.Shape.{Shape}
use Rattle.rv_shape.specs.Objects.{OperationShape, TaskShape}
use Rattle.rv_scope.specs.declared.predefined.Library.TheVariants.{RealTime}
use Rattle.rv_scope.specs.declared.wanted.Wanted.TheVariants as w
use Rattle.rv_scope.specs.declared.declared.Declared.{Declared}
use Rattle.rv_scope.specs.declared.declared.Declared.TheVariants as d
use Rattle.rv_scope.specs.Scope.{ScopeView, in_body}
use Rattle.rv_scope.specs.Visible.{index_from}
use Rattle.rv_scope.specs.Wanted.{denoted}
use Rattle.rv_scope.specs.DeclarationUses.{with_parameters}
use Rattle.rv_scope.specs.UnitUses.{in_protected_unit, unit_of_body, with_body_item, package_scope, protected_units}
use Rattle.rv_static.specs.Static.{◌>>=◌}
use Rattle.rv_outline.specs.declared.outline.ObjectType.{ObjectType}
use Rattle.rv_outline.specs.declared.outline.ObjectType.TheVariants as sort
use Rattle.rv_outline.specs.Declarations.{body_scope}
use Rattle.rv_outline.specs.Shapes.{OutlineView, outlined}
use Rattle.rv_code.specs.Bodies.{Body, UnitBodies, bodiless}
use Rattle.rv_types.specs.Points.{PointView, taking_slot}
use Rattle.rv_types.specs.Blocks.{block_of}

-- what is known of a text before its bodies
pub record Setting : Type 0 where
  -- what its declarations mean
  pub outline : OutlineView
  -- the loaded units
  pub shapes : List Shape
  -- the operators of Ada.Real_Time are visible
  pub times : Bool

-- a point of a body as it begins
abbrev pub point_in : Setting → ScopeView → Option Range → PointView
point_in s scope result = record {
  scope = scope;
  known = s.outline.known;
  locals = [];
  units = s.outline.units;
  shapes = s.shapes;
  times = s.times;
  slots = 0;
  parameters = 0;
  constants = 0;
  result = result;
}

-- Parameters take the first slots, in their order (6.1)

-- a parameter is the next one of the operation; one that goes out may be written
abbrev pub name_taken : List shape.Parameter → Identifier → PointView → Option PointView
name_taken parameters i p = slice_get parameters p.slots >>= λ q. Some (taking_slot i.at q.range (goes_out q.mode) p)

abbrev pub names_taken : List shape.Parameter → List Identifier → PointView → Option PointView
names_taken parameters [] p = Some p
names_taken parameters (i ∷ more) p = name_taken parameters i p >>= names_taken parameters more

abbrev pub parameters_taken : List shape.Parameter → List Parameter → PointView → Option PointView
parameters_taken parameters [] p = Some p
parameters_taken parameters (one ∷ more) p = names_taken parameters one.names p >>= parameters_taken parameters more

-- the operation has no other ones
abbrev pub all_taken : List shape.Parameter → PointView → Option PointView
all_taken parameters p = if p.slots == length parameters then Some p else None

-- Bodies of operations (6.3, 9.5.2)

-- the range of the result of a function
abbrev pub result_of : Kind → Option Range
result_of (kind.Function r) = Some r
result_of other = None

-- a block with these parameters as the body of an operation of this identifier
abbrev pub body_of : Setting → ScopeView → OperationShape → Identifier → List Parameter → Block → Option Body
body_of s scope operation i parameters block =
    parameters_taken operation.parameters parameters
    (point_in s (with_parameters parameters (in_body i scope)) (result_of operation.kind))
    >>= all_taken operation.parameters
    >>= λ p. block_of operation.parameters (is_some (result_of operation.kind)) p block

abbrev pub operation_code : Setting → ScopeView → OperationShape → OperationBody → Option Body
operation_code s scope operation body =
    body_of s scope operation (operation_body_name body) (operation_body_parameters body) (operation_body_block body)

-- the body of this name
abbrev pub body_named : List ℕ → List OperationBody → Option OperationBody
body_named name [] = None
body_named name (body ∷ more) = if is_same_name name (operation_body_name body).text then Some body else body_named name more

-- the bodies of operations, in the order of their numbers
abbrev pub operations_onto : Setting → ScopeView → List OperationBody → List OperationShape → List Body → Option (List Body)
operations_onto s scope bodies [] done = Some done
operations_onto s scope bodies (operation ∷ more) done =
    body_named operation.name bodies >>= operation_code s scope operation >>= λ body.
    operations_onto s scope bodies more (done ++ body ∷ [])

-- Protected bodies (9.4)

-- the bodies of the operations of the protected unit of this number
abbrev pub bodies_of_unit : Setting → ScopeView → ℕ → List OperationBody → Option (List Body)
bodies_of_unit s scope number bodies =
    slice_get s.outline.units number >>= λ unit. operations_onto s scope bodies unit.operations []

-- the object of an index has these bodies
abbrev pub object_compiled : List Body → ℕ → UnitBodies → Option UnitBodies
object_compiled bodies index u = Some (record u { objects = slice_set u.objects index bodies })

-- the same of an object that may be another's
abbrev pub perhaps_compiled : List Body → ℕ → ℕ → ObjectType → UnitBodies → Option UnitBodies
perhaps_compiled bodies number index sort.Suspension u = Some u
perhaps_compiled bodies number index (sort.Protected unit) u = if unit == number then object_compiled bodies index u else Some u

-- each object of a protected unit, from an index on; no unit has so many (own)
abbrev pub objects_compiled : List Body → ℕ → ℕ → List ObjectType → UnitBodies → Option UnitBodies
objects_compiled bodies number index [] u = Some u
objects_compiled bodies number index (object ∷ more) u =
    if nat_lt index 4294967296 then
    (perhaps_compiled bodies number index object u >>= objects_compiled bodies number (index + 1) more)
    else None

-- the bodies of the protected unit of this number, which each of its objects has; a type without objects has bodies too, of
-- which none is kept
abbrev pub unit_bodies : Setting → ScopeView → ℕ → List OperationBody → UnitBodies → Option UnitBodies
unit_bodies s scope number bodies u =
    bodies_of_unit s scope number bodies >>= λ same. objects_compiled same number 0 s.outline.objects u

-- the bodies of a protected unit, with its number
abbrev pub unit_compiled : Setting → ScopeView → List OperationBody → UnitBodies → (ℕ × ProtectedUnit) → Option UnitBodies
unit_compiled s scope bodies u numbered = unit_bodies s (in_protected_unit numbered.1 scope) numbered.0 bodies u

abbrev pub protected_body_compiled : Setting → List ProtectedUnit → ScopeView → ProtectedBody → UnitBodies → Option UnitBodies
protected_body_compiled s units scope body u =
    unit_of_body units scope body.name >>= unit_compiled s scope body.operations u

-- Task bodies (9.1)

abbrev pub task_code : Setting → ScopeView → TaskBody → Option Body
task_code s scope body = block_of [] false (point_in s (in_body body.name scope) None) body.block

-- the index of the task of a name
abbrev pub task_index : List ℕ → ℕ → List TaskShape → Option ℕ
task_index name index tasks = index_from (λ task. task.name) name index tasks

abbrev pub with_task_body : UnitBodies → ℕ → Body → Option UnitBodies
with_task_body u index body = Some (record u { tasks = slice_set u.tasks index (Some body) })

abbrev pub task_body_compiled : Setting → ScopeView → TaskBody → UnitBodies → Option UnitBodies
task_body_compiled s scope body u =
    task_index body.name.text 0 s.outline.shape.tasks >>= λ index. task_code s scope body >>= with_task_body u index

-- The package body (7.2)

abbrev pub item_compiled : Setting → List ProtectedUnit → ScopeView → BodyItem → UnitBodies → Option UnitBodies
item_compiled s units scope (body_declaration one) u = Some u
item_compiled s units scope (body_protected body) u = protected_body_compiled s units scope body u
item_compiled s units scope (body_task body) u = task_body_compiled s scope body u

abbrev pub items_compiled : Setting → List ProtectedUnit → ScopeView → List BodyItem → UnitBodies → Option UnitBodies
items_compiled s units scope [] u = Some u
items_compiled s units scope (one ∷ more) u =
    item_compiled s units scope one u >>= items_compiled s units (with_body_item one scope) more

-- no bodies yet: a suspension object has none
abbrev pub no_bodies : OutlineView → UnitBodies
no_bodies outline = bodiless (length outline.objects) (length outline.shape.tasks)

-- a `with` names Ada.Real_Time (D.8)
abbrev pub is_real_time : Option Declared → Bool
is_real_time (Some (d.LibraryPackage RealTime)) = true
is_real_time found = false

abbrev pub names_times : ScopeView → List Name → Bool
names_times scope [] = false
names_times scope (n ∷ more) = is_real_time (denoted w.With scope n) || names_times scope more

abbrev pub item_times : ScopeView → ContextItem → Bool
item_times scope (with_clause at names) = names_times scope names
item_times scope (context_pragma pragma) = false
item_times scope (use_clause at is_type names) = false

abbrev pub context_times : ScopeView → List ContextItem → Bool
context_times scope [] = false
context_times scope (item ∷ more) = item_times scope item || context_times scope more

-- what is known of a text over the loaded units
abbrev pub setting_of : List Shape → UnitTree → Setting
setting_of shapes tree = record {
  outline = outlined shapes tree;
  shapes = shapes;
  times = context_times (package_scope shapes tree) tree.context;
}

-- the compiled bodies of a text's unit, over the loaded units
abbrev pub bodies_of : List Shape → UnitTree → Option UnitBodies
bodies_of shapes tree =
    items_compiled (setting_of shapes tree) (protected_units tree) (body_scope shapes tree) tree.body.items (no_bodies (outlined shapes tree))
