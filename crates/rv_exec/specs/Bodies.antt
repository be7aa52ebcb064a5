-- The bodies of all units loaded (own): operations and tasks by the catalogue's numbers.
use Rattle.std.specs.Prelude.{ℕ, ◌-◌, nat_lt, if◌then◌else◌, List, [], ◌∷◌, ◌++◌, Option, Some, None, slice_get, map}
use Rattle.std.specs.Arc.{arc_value}
use Rattle.rv_code.specs.Bodies.{Body, UnitBodies}
use Rattle.rv_code.specs.BodyView.{unit_view}
use Rattle.rv_code.specs.declared.body.UnitBodies as Held
use Rattle.rv_exec.specs.declared.bodies.Bodies.{Bodies}
use Rattle.rv_exec.specs.declared.bodies.SharedUnit.{SharedUnit}

abbrev pub no_bodies : UnitBodies
no_bodies = record { objects = []; tasks = [] }

-- the bodies of units as those of one unit that has all their objects and tasks, in order
abbrev pub all_of : List UnitBodies → UnitBodies
all_of [] = no_bodies
all_of (u ∷ us) = record { objects = u.objects ++ (all_of us).objects; tasks = u.tasks ++ (all_of us).tasks }

-- the bodies of a unit that is shared
abbrev pub held : SharedUnit → Held.UnitBodies
held shared = arc_value shared.unit

abbrev pub shared_view : SharedUnit → UnitBodies
shared_view shared = unit_view (held shared)

-- the bodies of each unit, and the bodies that a value of the code stands for
abbrev pub units_of : Bodies → List Held.UnitBodies
units_of bodies = map held bodies.units.items

abbrev pub bodies_view : Bodies → UnitBodies
bodies_view bodies = all_of (map shared_view bodies.units.items)

-- the bodies with those of one more unit
abbrev pub with_unit : UnitBodies → UnitBodies → UnitBodies
with_unit unit bodies = record { objects = bodies.objects ++ unit.objects; tasks = bodies.tasks ++ unit.tasks }

abbrev pub flat : {A : Type 0} → Option (Option A) → Option A
flat None = None
flat (Some found) = found

-- the item of a number from 1
abbrev pub numbered : {A : Type 0} → List A → ℕ → Option A
numbered items n = if nat_lt n 1 then None else slice_get items (n - 1)

abbrev pub among : Option (List Body) → ℕ → Option Body
among None operation = None
among (Some operations) operation = numbered operations operation

-- the body of an operation of an object, if it has one
abbrev pub operation_of : UnitBodies → ℕ → ℕ → Option Body
operation_of bodies object operation = among (numbered bodies.objects object) operation

-- the body of a task, if it has one: tasks are the actors from 11 on
abbrev pub task_of : UnitBodies → ℕ → Option Body
task_of bodies actor = if nat_lt actor 11 then None else flat (slice_get bodies.tasks (actor - 11))
