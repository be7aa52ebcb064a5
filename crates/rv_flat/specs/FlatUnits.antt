-- The bodies that a unit's table stands for.
use Rattle.std.specs.Prelude.{◌≡◌, ◌≤◌, ℕ, List, [], ◌∷◌, length, map, Option, Some, None}
use Rattle.rv_code.specs.Bodies as t
use Rattle.rv_flat.specs.declared.body.FlatBody.{FlatBody}
use Rattle.rv_flat.specs.declared.unit.FlatObject.{FlatObject}
use Rattle.rv_flat.specs.declared.unit.FlatUnit.{FlatUnit}
use Rattle.rv_flat.specs.FlatView.{IsAmong, body_in}
use Rattle.rv_flat.specs.Tables.{trees}
use Rattle.rv_flat.specs.Trees.{Tree, tree_at}

abbrev pub Every : {F : Type 0} → (F → Type 0) → List F → Type 0
Every P [] = Unit {0}
Every P (f ∷ fs) = P f × Every P fs

-- behind trees that were added to, something with numbers in the table stands for this; what stood before stands as it did
pub record Standing {F X : Type 0} (IsIn : ℕ → F → Type 0) (view : List Tree → F → X) (before after : List Tree) (f : F) (x : X) : Type 0 where
  pub longer : length before ≤ length after
  pub same : (c : ℕ) → c ≤ length before → tree_at after c ≡ tree_at before c
  pub within : IsIn (length after) f
  pub is : view after f ≡ x

-- the numbers of an object's bodies, or of a task's, are among so many
abbrev pub IsObjectAmong : ℕ → FlatObject → Type 0
IsObjectAmong count o = Every (IsAmong count) o.operations.items

abbrev pub IsTaskAmong : ℕ → Option FlatBody → Type 0
IsTaskAmong count None = Unit {0}
IsTaskAmong count (Some b) = IsAmong count b

abbrev pub object_in : List Tree → FlatObject → List t.Body
object_in ts o = map (body_in ts) o.operations.items

-- those of a list that may be there
abbrev pub listed_in : List Tree → Option FlatObject → List t.Body
listed_in ts None = []
listed_in ts (Some o) = object_in ts o

abbrev pub task_in : List Tree → Option FlatBody → Option t.Body
task_in ts None = None
task_in ts (Some b) = Some (body_in ts b)

-- the bodies of a unit by its table
abbrev pub flat_view : FlatUnit → t.UnitBodies
flat_view u = record { objects = map (object_in (trees u.code)) u.objects.items; tasks = map (task_in (trees u.code)) u.tasks.items }
