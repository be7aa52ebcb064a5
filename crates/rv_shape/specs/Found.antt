-- That what is loaded is found by its names, so that a text which names it names nothing else (own).
use Rattle.std.specs.Prelude.{◌≡◌, ℕ, List, [], ◌∷◌, ◌++◌, map, Some, IsTrue, false}
use Rattle.std.specs.List.{list_any}
use Rattle.rv_text.specs.Names.{is_identifier}
use Rattle.rv_shape.specs.Shape.{Shape}
use Rattle.rv_shape.specs.Catalogue.{UnitTask, UnitObject, numbered, place, operations_of}
use Rattle.rv_shape.specs.Forms.{ill_formed}
use Rattle.rv_shape.specs.Readers.{actor_task}
use Rattle.rv_shape.specs.Fits.{object_name, twice}
use Rattle.rv_shape.specs.Names.{unit_name, task_name, unit_object_name, operation_names, task_number, object_number, operation_number}

-- a task's names are identifiers (2.3), and `Unit.Task` is this actor
pub record IsFoundTask (shapes : List Shape) (actor : ℕ) (at : UnitTask) : Type 0 where
  pub unit : IsTrue (is_identifier at.unit)
  pub name : IsTrue (is_identifier at.task.name)
  pub number : task_number shapes (task_name at) ≡ Some actor

-- an object's names are identifiers, and `Unit.Object` has this number
pub record IsFoundObject (shapes : List Shape) (object : ℕ) (at : UnitObject) : Type 0 where
  pub unit : IsTrue (is_identifier at.unit)
  pub name : IsTrue (is_identifier (object_name at.object))
  pub number : object_number shapes (unit_object_name at) ≡ Some object

-- all tasks, objects and operations are found so
pub record AreFound (shapes : List Shape) : Type 0 where
  pub tasks : (actor : ℕ) (at : UnitTask) → actor_task shapes actor ≡ Some at → IsFoundTask shapes actor at
  pub objects : (object : ℕ) (at : UnitObject) → place shapes object ≡ Some at → IsFoundObject shapes object at
  pub operations : (object operation : ℕ) (at : UnitObject) (name : List ℕ) → place shapes object ≡ Some at →
      numbered (operation_names at.object) operation ≡ Some name →
      IsTrue (is_identifier name) × (operation_number shapes object name ≡ Some operation)

-- the names of the unit's parts differ, and so do those of an object's operations; all have their form
pub record IsClear (shape : Shape) : Type 0 where
  pub parts : twice (map (λ task. task.name) shape.tasks ++ map object_name shape.objects) ≡ false
  pub operations : list_any (λ object. twice (map (λ operation. operation.name) (operations_of object))) shape.objects ≡ false
  pub formed : ill_formed shape ≡ false

-- all are so
abbrev pub AreClear : List Shape → Type 0
AreClear [] = Unit {0}
AreClear (shape ∷ shapes) = IsClear shape × AreClear shapes

-- the names of the units differ too
pub record AreDistinct (shapes : List Shape) : Type 0 where
  pub units : twice (map unit_name shapes) ≡ false
  pub each : AreClear shapes
