-- The least capacity of a run that lasts. (own)
use Rattle.std.specs.Prelude.{ℕ, zero, suc, ◌+◌, ◌*◌, min, max, Bool, true, false, if◌then◌else◌, nat_le, List, length, Option, Some, None, is_some}
use Rattle.rv_shape.specs.Catalogue.{UnitObject, all_objects, all_tasks, handler, place}
use Rattle.rv_shape.specs.Shape.{Shape}
use Rattle.rv_shape.specs.declared.object.Object.{Object}
use Rattle.rv_shape.specs.declared.object.Object.TheVariants.{Protected, Suspension}

-- how many numbers below one pass a test
abbrev pub count_below : (ℕ → Bool) → ℕ → ℕ
count_below test zero = 0
count_below test (suc n) = (if test n then 1 else 0) + count_below test n

abbrev pub is_kind : Object → Bool
is_kind (Protected object) = true
is_kind (Suspension object) = false

abbrev pub is_protected : Option UnitObject → Bool
is_protected None = false
is_protected (Some at) = is_kind at.object

-- how many protected objects there are
abbrev pub protected : List Shape → ℕ
protected shapes = count_below (λ n. is_protected (place shapes (n + 1))) (length (all_objects shapes))

-- how deep bodies call at most: each holds one more protected object, and at most 16
abbrev pub depth_of : List Shape → ℕ
depth_of shapes = min (protected shapes) 16

-- how many of the ten lines have a handler
abbrev pub handled_lines : List Shape → ℕ
handled_lines shapes = count_below (λ line. is_some (handler shapes line)) 10

-- How many entries may be owed at once with so many tasks, bodies that call so deep, and so many lines with a handler: the halt; of each task
-- its quit, and the ends of the bodies that it is in, or what a queued call owes; of each line the ends of its bodies.
abbrev pub owed_of : (tasks depth lines : ℕ) → ℕ
owed_of tasks depth lines = 1 + tasks * (1 + max depth 2) + depth * lines

abbrev pub most_owed : List Shape → ℕ
most_owed shapes = owed_of (length (all_tasks shapes)) (depth_of shapes) (handled_lines shapes)

-- the least capacity of a run that lasts: beside that one entry, and one of an archive
abbrev pub least_capacity : List Shape → ℕ
least_capacity shapes = most_owed shapes + 2

-- the same of one that begins with so many sections, each of which brings a unit or a list: an entry is taken by each, and kept for the quit
-- of each task and the halt
abbrev pub least_behind : ℕ → List Shape → ℕ
least_behind sections shapes = max (least_capacity shapes) (sections + length (all_tasks shapes) + 1)
