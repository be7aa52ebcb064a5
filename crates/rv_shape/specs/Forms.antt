-- The forms that shapes have, of which a text says no other (own).
use Rattle.std.specs.Prelude.{ℕ, ℤ, pos, negsuc, ◌==◌, nat_le, Bool, true, false, ◌&&◌, ◌||◌, not, List, [], ◌∷◌, Option, Some, None}
use Rattle.std.specs.List.{list_any}
use Rattle.rv_text.specs.Names.{is_identifier}
use Rattle.rv_shape.specs.declared.kind.Component.{Component}
use Rattle.rv_shape.specs.declared.kind.Parameter.{Parameter}
use Rattle.rv_shape.specs.declared.kind.ParameterMode.{ParameterMode}
use Rattle.rv_shape.specs.declared.kind.ParameterMode.TheVariants.{In, Out, InOut}
use Rattle.rv_shape.specs.declared.kind.Barrier.{Barrier}
use Rattle.rv_shape.specs.declared.kind.Barrier.TheVariants as Barriers
use Rattle.rv_shape.specs.declared.kind.Kind.{Kind}
use Rattle.rv_shape.specs.declared.kind.Kind.TheVariants.{Function, Procedure, Entry, Handler}
use Rattle.rv_shape.specs.declared.object.Object.{Object}
use Rattle.rv_shape.specs.declared.object.Object.TheVariants.{Protected, Suspension}
use Rattle.rv_shape.specs.Limits.{last_line}
use Rattle.rv_shape.specs.Objects.{OperationShape}
use Rattle.rv_shape.specs.Shape.{Shape}
use Rattle.rv_shape.specs.Catalogue.{numbered}

-- whether a mode is `in`
abbrev pub is_in : ParameterMode → Bool
is_in In = true
is_in Out = false
is_in InOut = false

-- whether all parameters are `in`
abbrev pub are_in : List Parameter → Bool
are_in [] = true
are_in (parameter ∷ parameters) = is_in parameter.mode && are_in parameters

-- whether there are no parameters
abbrev pub are_none : List Parameter → Bool
are_none [] = true
are_none (parameter ∷ parameters) = false

-- a bound is exactly this number
abbrev pub is_at : ℕ → ℤ → Bool
is_at number (pos bound) = bound == number
is_at number (negsuc bound) = false

-- there is a component, and its range is exactly 0 .. 1
abbrev pub is_truth : Option Component → Bool
is_truth None = false
is_truth (Some component) = is_at 0 component.range.low && is_at 1 component.range.high

-- a barrier that names a component names one of range 0 .. 1 (9.5.2, D.7 Simple_Barriers)
abbrev pub is_barrier : List Component → Barrier → Bool
is_barrier components Barriers.AlwaysOpen = true
is_barrier components Barriers.AlwaysClosed = true
is_barrier components (Barriers.Component number) = is_truth (numbered components number)

-- the parameters of a function are `in` (6.1), an entry has such a barrier, and a handler handles a line 0 .. 9 and has
-- no parameters (C.3.1)
abbrev pub is_formed : List Component → Kind → List Parameter → Bool
is_formed components (Function result) parameters = are_in parameters
is_formed components Procedure parameters = true
is_formed components (Entry barrier) parameters = is_barrier components barrier
is_formed components (Handler line) parameters = nat_le line last_line && are_none parameters

-- an operation's name is no identifier (2.3), or it isn't formed so
abbrev pub ill_operation : List Component → OperationShape → Bool
ill_operation components operation =
    not (is_identifier operation.name && is_formed components operation.kind operation.parameters)

-- an object's name is no identifier, or one of its operations is ill-formed
abbrev pub ill_object : Object → Bool
ill_object (Suspension object) = not (is_identifier object.name)
ill_object (Protected object) =
    not (is_identifier object.name) || list_any (λ operation. ill_operation object.components operation) object.operations

-- the name of the unit or of a task is no identifier, or an object is ill-formed
abbrev pub ill_formed : Shape → Bool
ill_formed shape =
    not (is_identifier shape.name) || list_any (λ task. not (is_identifier task.name)) shape.tasks
    || list_any ill_object shape.objects
