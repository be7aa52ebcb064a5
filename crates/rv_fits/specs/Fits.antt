-- Whether what a unit's bodies call is what they call it for, in a catalogue (own).
use Rattle.std.specs.Prelude.{◌==◌, ◌+◌, Bool, true, false, ◌&&◌, ◌||◌, not, List, [], ◌∷◌, ◌++◌, length, Option, Some, None}
use Rattle.rv_shape.specs.declared.object.Object.{Object}
use Rattle.rv_shape.specs.declared.object.Object.TheVariants.{Protected, Suspension}
use Rattle.rv_shape.specs.Shape.{Shape}
use Rattle.rv_shape.specs.Catalogue.{UnitObject, Target, OnProtected, all_objects, place, target, is_function, is_entry}
use Rattle.rv_code.specs.declared.expression.Callee.{Callee}
use Rattle.rv_code.specs.declared.expression.Callee.TheVariants as callee
use Rattle.rv_code.specs.Bodies.{UnitBodies}
use Rattle.rv_ranged.specs.Ranged.{ranges_fit}
use Rattle.rv_fits.specs.Calls.{calls_from, every_call}

-- a call of a function of a protected object (9.5.1)
abbrev pub calls_function : Target → Bool
calls_function (OnProtected site) = is_function site.operation.kind
calls_function other = false

-- a call of an entry (9.5.3)
abbrev pub calls_entry : Target → Bool
calls_entry (OnProtected site) = is_entry site.operation.kind
calls_entry other = false

-- a call of another operation of a protected object: a procedure or a handler (9.5.1, C.3.1)
abbrev pub calls_procedure : Target → Bool
calls_procedure (OnProtected site) = not (is_function site.operation.kind || is_entry site.operation.kind)
calls_procedure other = false

-- an object is a suspension object (D.10)
abbrev pub suspends : Object → Bool
suspends (Protected object) = false
suspends (Suspension object) = true

abbrev pub is_suspension : Option UnitObject → Bool
is_suspension None = false
is_suspension (Some at) = suspends at.object

-- what a callee names in the catalogue is what it is called for; an internal call, a delay and Clock name nothing there; an
-- entry of the same object is there by the object's number alone
abbrev pub callee_fits : List Shape → Callee → Bool
callee_fits shapes (callee.Internal operation) = true
callee_fits shapes (callee.OwnEntry operation) = false
callee_fits shapes (callee.Function object operation) = calls_function (target shapes object operation)
callee_fits shapes (callee.Procedure object operation) = calls_procedure (target shapes object operation)
callee_fits shapes (callee.Entry object operation) = calls_entry (target shapes object operation)
callee_fits shapes (callee.SetTrue object) = is_suspension (place shapes object)
callee_fits shapes (callee.SetFalse object) = is_suspension (place shapes object)
callee_fits shapes (callee.CurrentState object) = is_suspension (place shapes object)
callee_fits shapes (callee.SuspendUntilTrue object) = is_suspension (place shapes object)
callee_fits shapes callee.DelayUntil = true
callee_fits shapes callee.Clock = true

-- the calls of the bodies of all units fit the catalogue
abbrev pub calls_fit : List Shape → UnitBodies → Bool
calls_fit shapes bodies = every_call (callee_fits shapes) bodies

-- A unit's bodies have as many objects and tasks as its shape, so that by the catalogue's numbers no unit's body is another's.
abbrev pub numbered_as : Shape → UnitBodies → Bool
numbered_as shape bodies = (length bodies.objects == length shape.objects) && (length bodies.tasks == length shape.tasks)

-- the calls of the bodies of a unit fit these units and it, behind which it stands
abbrev pub unit_calls_fit : List Shape → Shape → UnitBodies → Bool
unit_calls_fit shapes shape bodies = calls_from (callee_fits (shapes ++ shape ∷ [])) (length (all_objects shapes) + 1) bodies

-- bodies may be loaded with a shape, over these units: they are numbered as it is, their calls fit, and their values lie in
-- their ranges
abbrev pub are_of : List Shape → Shape → UnitBodies → Bool
are_of shapes shape bodies =
    (numbered_as shape bodies && unit_calls_fit shapes shape bodies) && ranges_fit (shapes ++ shape ∷ []) shape.objects bodies
