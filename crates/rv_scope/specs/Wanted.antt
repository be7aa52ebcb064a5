-- What a name is wanted for, and what may stand there (ISO/IEC 8652:2012, 8.6; own).
use Rattle.std.specs.Prelude.{Bool, true, false, Option, Some, None}
use Rattle.rv_tree.specs.Names.{Name}
use Rattle.rv_scope.specs.declared.declared.Declared.{Declared}
use Rattle.rv_scope.specs.declared.declared.Declared.TheVariants as d
use Rattle.rv_scope.specs.declared.declared.OperationKind.{OperationKind}
use Rattle.rv_scope.specs.declared.declared.OperationKind.TheVariants as kind
use Rattle.rv_scope.specs.declared.predefined.Predefined.{Predefined}
use Rattle.rv_scope.specs.declared.predefined.Predefined.TheVariants as p
use Rattle.rv_scope.specs.declared.wanted.Wanted.{Wanted}
use Rattle.rv_scope.specs.declared.wanted.Wanted.TheVariants as w
use Rattle.rv_scope.specs.declared.wanted.Sort.{Sort}
use Rattle.rv_scope.specs.declared.wanted.Sort.TheVariants as s
use Rattle.rv_scope.specs.Scope.{ScopeView}
use Rattle.rv_scope.specs.Predefined.{named}
use Rattle.rv_scope.specs.Visible.{flat, own_unit, visible, visible_in_context, library_unit}

abbrev pub operation_sort : OperationKind → Sort
operation_sort kind.Function = s.Function
operation_sort kind.Procedure = s.Procedure
operation_sort kind.Entry = s.Entry

abbrev pub predefined_sort : Predefined → Sort
predefined_sort p.Integer = s.Subtype
predefined_sort p.Natural = s.Subtype
predefined_sort p.Positive = s.Subtype
predefined_sort p.Boolean = s.Subtype
predefined_sort p.True = s.Literal
predefined_sort p.False = s.Literal
predefined_sort p.ConstraintError = s.Exception
predefined_sort p.ProgramError = s.Exception
predefined_sort p.Priority = s.Subtype
predefined_sort p.InterruptPriority = s.Subtype
predefined_sort p.AnyPriority = s.Subtype
predefined_sort p.DefaultPriority = s.Constant
predefined_sort p.Time = s.Subtype
predefined_sort p.TimeSpan = s.Subtype
predefined_sort p.Clock = s.Function
predefined_sort p.Milliseconds = s.Function
predefined_sort p.SuspensionObject = s.SuspensionType
predefined_sort p.SetTrue = s.Procedure
predefined_sort p.SetFalse = s.Procedure
predefined_sort p.CurrentState = s.Function
predefined_sort p.SuspendUntilTrue = s.Procedure
predefined_sort (p.Line line) = s.Constant
predefined_sort p.AccessDenied = s.Exception

-- what sort of thing a declaration declares
abbrev pub sort : Declared → Sort
sort (d.Subtype at) = s.Subtype
sort (d.Constant at) = s.Constant
sort (d.Variable at) = s.Variable
sort (d.Parameter at) = s.Variable
sort (d.LoopParameter at) = s.Constant
sort (d.Component at) = s.Variable
sort (d.Operation at of) = operation_sort of
sort (d.ProtectedType at unit) = s.ProtectedType
sort (d.SingleProtected at unit) = s.SingleProtected
sort (d.ProtectedObject at unit) = s.ProtectedObject
sort (d.ObjectOperation object at of) = operation_sort of
sort (d.Suspension at) = s.Suspension
sort (d.Task at) = s.Task
sort d.OwnUnit = s.OwnUnit
sort (d.Unit unit) = s.Unit
sort (d.UnitObject unit object) = s.ProtectedObject
sort (d.UnitSuspension unit object) = s.Suspension
sort (d.UnitOperation unit object operation of) = operation_sort of
sort (d.LibraryPackage library) = s.Library
sort (d.Predefined item) = predefined_sort item

-- what may stand in an expression; which values fit is a question of types
abbrev pub is_value : Sort → Bool
is_value s.Constant = true
is_value s.Literal = true
is_value s.Variable = true
is_value s.Function = true
is_value s.Suspension = true
is_value other = false

-- what is wanted is of such a sort
abbrev pub suits : Wanted → Sort → Bool
suits w.With s.Library = true
suits w.With s.Unit = true
suits w.Use s.Library = true
suits w.Subtype s.Subtype = true
suits w.ObjectType s.ProtectedType = true
suits w.ObjectType s.SuspensionType = true
suits w.Value found = is_value found
suits w.Choice s.Subtype = true
suits w.Choice found = is_value found
suits w.Called s.Function = true
suits w.Called s.Subtype = true
suits w.Target s.Variable = true
suits w.Target s.Constant = true
suits w.Procedure s.Procedure = true
suits w.Procedure s.Entry = true
suits w.Exception s.Exception = true
suits w.Handler s.Procedure = true
suits w.PackageBody s.OwnUnit = true
suits w.ProtectedBody s.ProtectedType = true
suits w.ProtectedBody s.SingleProtected = true
suits w.TaskBody s.Task = true
suits w.FunctionBody s.Function = true
suits w.ProcedureBody s.Procedure = true
suits w.EntryBody s.Entry = true
suits wanted found = false

-- a body is wanted of what the name denotes
abbrev pub is_body : Wanted → Bool
is_body w.PackageBody = true
is_body w.ProtectedBody = true
is_body w.TaskBody = true
is_body w.FunctionBody = true
is_body w.ProcedureBody = true
is_body w.EntryBody = true
is_body other = false

-- what a name denotes: a `with` names library units, a `use` what is visible in a context clause, a body what the innermost
-- region declares, and all else what is visible
abbrev pub denoted : Wanted → ScopeView → Name → Option Declared
denoted w.With scope name = library_unit scope name
denoted w.Use scope name = visible_in_context scope name
denoted w.PackageBody scope name = flat (own_unit scope name.first.text)
denoted w.ProtectedBody scope name = flat (named name.first.text scope.innermost)
denoted w.TaskBody scope name = flat (named name.first.text scope.innermost)
denoted w.FunctionBody scope name = flat (named name.first.text scope.innermost)
denoted w.ProcedureBody scope name = flat (named name.first.text scope.innermost)
denoted w.EntryBody scope name = flat (named name.first.text scope.innermost)
denoted w.Nothing scope name = None
denoted wanted scope name = visible scope name

-- what is found is of a sort that is wanted
abbrev pub is_found : Wanted → Option Declared → Bool
is_found wanted None = false
is_found wanted (Some found) = suits wanted (sort found)
