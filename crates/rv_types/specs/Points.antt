-- What names denote at a point of a body (ISO/IEC 8652:2012, 4.1, 8.6, 9.4, 9.5).
use Rattle.std.specs.Prelude.{ℕ, zero, suc, ◌+◌, ◌-◌, ◌==◌, nat_lt, if◌then◌else◌, Bool, true, false, List, [], ◌∷◌, ◌++◌, Option, Some, None, slice_get, length}
use Rattle.rv_tree.specs.Names.{Identifier, Name}
use Rattle.rv_event.specs.declared.entry.Exception.TheVariants as exception
use Rattle.rv_shape.specs.declared.kind.Range.{Range}
use Rattle.rv_shape.specs.declared.kind.Parameter.{Parameter}
use Rattle.rv_shape.specs.declared.kind.Kind.{Kind}
use Rattle.rv_shape.specs.declared.kind.Kind.TheVariants as kind
use Rattle.rv_shape.specs.Shape.{Shape}
use Rattle.rv_shape.specs.Objects.{OperationShape, ProtectedShape}
use Rattle.rv_shape.specs.Catalogue.{first_of, operations_of}
use Rattle.rv_code.specs.declared.expression.Callee.{Callee}
use Rattle.rv_code.specs.declared.expression.Callee.TheVariants as callee
use Rattle.rv_scope.specs.declared.declared.Declared.{Declared}
use Rattle.rv_scope.specs.declared.declared.Declared.TheVariants as d
use Rattle.rv_scope.specs.declared.declared.OperationKind.{OperationKind}
use Rattle.rv_scope.specs.declared.declared.OperationKind.TheVariants as op
use Rattle.rv_scope.specs.declared.predefined.Predefined.{Predefined}
use Rattle.rv_scope.specs.declared.predefined.Predefined.TheVariants as p
use Rattle.rv_scope.specs.Scope.{ScopeView, declaring, hiding, entered}
use Rattle.rv_scope.specs.Visible.{visible}
use Rattle.rv_static.specs.Static.{◌>>=◌}
use Rattle.rv_static.specs.declared.meaning.Meaning.{Meaning}
use Rattle.rv_scope.specs.declared.known.Known.{Known}
use Rattle.rv_scope.specs.declared.known.Known.TheVariants as k
use Rattle.rv_scope.specs.ByPlace.{at_place}
use Rattle.rv_scope.specs.Statics.{Table, known_meaning, meaning_of}
use Rattle.rv_types.specs.declared.point.Local.{Local}
use Rattle.rv_types.specs.declared.denoted.Denoted.{Denoted}
use Rattle.rv_types.specs.declared.denoted.Denoted.TheVariants as denoted
use Rattle.rv_types.specs.declared.denoted.SuspensionOperation.TheVariants as suspension

pub record PointView : Type 0 where
  -- what is declared there
  pub scope : ScopeView
  -- what is known of the declarations of the package, its protected units and their members
  pub known : Table
  -- what is known of the declarations of the body so far, by the places of their identifiers
  pub locals : List Local
  -- the protected units of the text, in the order of their numbers
  pub units : List ProtectedShape
  -- the loaded units
  pub shapes : List Shape
  -- the operators of Ada.Real_Time are visible: a `with` names it (D.8; own)
  pub times : Bool
  -- the next slot
  pub slots : ℕ
  -- how many slots the parameters have, which stand first
  pub parameters : ℕ
  -- how many slots constants have
  pub constants : ℕ
  -- the range of the result, in the body of a function (6.5)
  pub result : Option Range

-- what is known of the declaration of this place in the body
abbrev pub local_at : ℕ → List Local → Option Known
local_at at [] = None
local_at at (one ∷ more) = if one.at == at then Some one.known else local_at at more

-- what is known of a declaration, of the package or of the body
abbrev pub known_in : PointView → ℕ → Option Known
known_in p at = first_of (at_place p.known at) (local_at at p.locals)

-- what a declaration means in a static expression
abbrev pub point_meaning : PointView → Option Declared → Meaning
point_meaning p (Some (d.Constant at)) = known_meaning (known_in p at)
point_meaning p other = meaning_of p.known other

-- what a name means in a static expression
unfoldable pub static_meaning : PointView → Name → Meaning
static_meaning p n = point_meaning p (visible p.scope n)

-- Operations

-- the operation of an index; no object has so many (own)
abbrev pub indexed : List OperationShape → ℕ → Option OperationShape
indexed operations index = if nat_lt index 4294967296 then slice_get operations index else None

-- the operation of an index of the protected unit of a number
abbrev pub operation_at : List ProtectedShape → ℕ → ℕ → Option OperationShape
operation_at units number index = slice_get units number >>= λ unit. indexed unit.operations index

-- the operation of these indexes of a loaded unit
abbrev pub loaded_operation : List Shape → ℕ → ℕ → ℕ → Option OperationShape
loaded_operation shapes unit object index =
    slice_get shapes unit >>= λ shape. slice_get shape.objects object >>= λ found. indexed (operations_of found) index

-- the number of an object of a loaded unit, by its unit and its own index, where the first object of these units has a
-- number; no host has so many objects (own)
abbrev pub object_from : ℕ → ℕ → ℕ → List Shape → Option ℕ
object_from first unit object [] = None
object_from first zero object (shape ∷ more) = if nat_lt object (length shape.objects) then Some (first + object) else None
object_from first (suc unit) object (shape ∷ more) =
    if nat_lt (first + length shape.objects) 4294967296 then object_from (first + length shape.objects) unit object more else None

abbrev pub object_number : List Shape → ℕ → ℕ → Option ℕ
object_number shapes unit object = object_from 1 unit object shapes

-- what is called: a function with the range of its result, or another operation
abbrev pub called_kind : Callee → Kind → Denoted
called_kind callee (kind.Function r) = denoted.Function callee r
called_kind callee other = denoted.Procedure callee

abbrev pub called_as : Callee → Option OperationShape → Denoted
called_as callee None = denoted.Other
called_as callee (Some operation) = called_kind callee operation.kind

-- an operation of an object, which is asked of the host (9.5)
abbrev pub outer_callee : OperationKind → ℕ → ℕ → Callee
outer_callee op.Function object index = callee.Function object (index + 1)
outer_callee op.Procedure object index = callee.Procedure object (index + 1)
outer_callee op.Entry object index = callee.Entry object (index + 1)

-- an operation of the protected unit around the point: its call is internal, but an entry is asked of the host (9.5; own)
abbrev pub inner_callee : OperationKind → ℕ → Callee
inner_callee op.Function index = callee.Internal (index + 1)
inner_callee op.Procedure index = callee.Internal (index + 1)
inner_callee op.Entry index = callee.OwnEntry (index + 1)

-- an operation that is known, as one of the protected unit around the point
abbrev pub inner_operation : PointView → OperationKind → Option Known → Denoted
inner_operation p of (Some (k.Operation number index)) = called_as (inner_callee of index) (operation_at p.units number index)
inner_operation p of known = denoted.Other

-- an operation that is known, as one of an object that is known
abbrev pub outer_operation : PointView → OperationKind → Option Known → Option Known → Denoted
outer_operation p of (Some (k.Object object)) (Some (k.Operation number index)) =
    called_as (outer_callee of object index) (operation_at p.units number index)
outer_operation p of object known = denoted.Other

-- an operation of an object of a loaded unit
abbrev pub loaded_callee : OperationKind → ℕ → Option ℕ → Option OperationShape → Denoted
loaded_callee of index (Some object) operation = called_as (outer_callee of object index) operation
loaded_callee of index None operation = denoted.Other

-- What a name denotes

-- an object of the body, or a component
abbrev pub known_value : Option Known → Denoted
known_value (Some (k.Variable slot r is_written)) = denoted.Variable slot r is_written
known_value (Some (k.Component index r)) = denoted.Component index r
known_value known = denoted.Other

abbrev pub known_suspension : Option Known → Denoted
known_suspension (Some (k.Object object)) = denoted.Suspension object
known_suspension known = denoted.Other

abbrev pub loaded_suspension : Option ℕ → Denoted
loaded_suspension (Some object) = denoted.Suspension object
loaded_suspension None = denoted.Other

-- a declaration of a library package (11.1, D.8, D.10; Access_Denied is our own)
abbrev pub predefined_value : Predefined → Denoted
predefined_value p.Clock = denoted.Clock
predefined_value p.SetTrue = denoted.Setter suspension.SetTrue
predefined_value p.SetFalse = denoted.Setter suspension.SetFalse
predefined_value p.SuspendUntilTrue = denoted.Setter suspension.SuspendUntilTrue
predefined_value p.CurrentState = denoted.CurrentState
predefined_value p.ConstraintError = denoted.Exception exception.ConstraintError
predefined_value p.ProgramError = denoted.Exception exception.ProgramError
predefined_value p.AccessDenied = denoted.Exception exception.AccessDenied
predefined_value item = denoted.Other

-- what a declaration is in a body
abbrev pub denoted_by : PointView → Option Declared → Denoted
denoted_by p (Some (d.Constant at)) = known_value (known_in p at)
denoted_by p (Some (d.Variable at)) = known_value (known_in p at)
denoted_by p (Some (d.Parameter at)) = known_value (known_in p at)
denoted_by p (Some (d.LoopParameter at)) = known_value (known_in p at)
denoted_by p (Some (d.Component at)) = known_value (known_in p at)
denoted_by p (Some (d.Operation at of)) = inner_operation p of (at_place p.known at)
denoted_by p (Some (d.ObjectOperation object at of)) = outer_operation p of (at_place p.known object) (at_place p.known at)
denoted_by p (Some (d.UnitOperation unit object index of)) =
    loaded_callee of index (object_number p.shapes unit object) (loaded_operation p.shapes unit object index)
denoted_by p (Some (d.Suspension at)) = known_suspension (at_place p.known at)
denoted_by p (Some (d.UnitSuspension unit object)) = loaded_suspension (object_number p.shapes unit object)
denoted_by p (Some (d.Predefined item)) = predefined_value item
denoted_by p found = denoted.Other

-- what a name denotes: what is known of the declaration that is visible
unfoldable pub denotes : PointView → Name → Denoted
denotes p n = denoted_by p (visible p.scope n)

-- the parameters of an operation
abbrev pub parameters_of : Option OperationShape → List Parameter
parameters_of None = []
parameters_of (Some operation) = operation.parameters

abbrev pub known_parameters : PointView → Option Known → List Parameter
known_parameters p (Some (k.Operation number index)) = parameters_of (operation_at p.units number index)
known_parameters p known = []

abbrev pub profile_of : PointView → Option Declared → List Parameter
profile_of p (Some (d.Operation at of)) = known_parameters p (at_place p.known at)
profile_of p (Some (d.ObjectOperation object at of)) = known_parameters p (at_place p.known at)
profile_of p (Some (d.UnitOperation unit object index of)) = parameters_of (loaded_operation p.shapes unit object index)
profile_of p found = []

-- the parameters of the operation that a name denotes
unfoldable pub profile : PointView → Name → List Parameter
profile p n = profile_of p (visible p.scope n)

unfoldable pub shows_times : PointView → Bool
shows_times p = p.times

-- Points on the way through a body

-- something is known of a declaration
abbrev pub noting : ℕ → Known → PointView → PointView
noting at known p = record p { locals = p.locals ++ record { at = at; known = known } ∷ [] }

-- an object of the body takes the next slot
abbrev pub taking_slot : ℕ → Range → Bool → PointView → PointView
taking_slot at r is_written p = record (noting at (k.Variable p.slots r is_written) p) { slots = p.slots + 1 }

-- 64 variables and loop parameters may be open beside parameters and constants: a slot is left for one more (own)
unfoldable pub has_slot : PointView → Bool
has_slot p = nat_lt (p.slots - (p.parameters + p.constants)) 64

-- 64 constants may have a value that isn't static: a slot is left for one more (own)
unfoldable pub has_constant_slot : PointView → Bool
has_constant_slot p = nat_lt p.constants 64

-- a constant takes the next slot
abbrev pub taking_constant : ℕ → Range → PointView → PointView
taking_constant at r p = record (taking_slot at r false p) { constants = p.constants + 1 }

-- an object of a declaration, a variable or a constant
abbrev pub has_object_slot : Bool → PointView → Bool
has_object_slot true p = has_slot p
has_object_slot false p = has_constant_slot p

abbrev pub taking_object : ℕ → Range → Bool → PointView → PointView
taking_object at r true p = taking_slot at r true p
taking_object at r false p = taking_constant at r p

-- the parameters have their slots
abbrev pub behind_parameters : PointView → PointView
behind_parameters p = record p { parameters = p.slots }

-- a loop's parameter in its own bounds, where it denotes nothing (5.5, 8.3)
abbrev pub in_bounds : Identifier → PointView → PointView
in_bounds i p = record p { scope = hiding i (entered p.scope) }

-- and in the loop's statements
abbrev pub with_loop_parameter : Identifier → Range → PointView → PointView
with_loop_parameter i r p = taking_slot i.at r false (record p { scope = declaring d.LoopParameter i p.scope })
