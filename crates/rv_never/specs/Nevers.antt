-- What can never work (own; C.3, D.3).
use Rattle.std.specs.Prelude.{◌≡◌, ◌<◌, ◌≤◌, ◌↔◌, ◌⊎◌, ℕ, ◌+◌, Bool, true, false, ◌==◌, ◌&&◌, nat_lt, List, [], ◌∷◌, Option, Some, None}
use Rattle.std.specs.List.{Contains, flat_map, list_any}
use Rattle.rv_access.specs.Words.{Words}
use Rattle.rv_shape.specs.declared.object.Object.{Object}
use Rattle.rv_shape.specs.declared.object.Object.TheVariants.{Protected, Suspension}
use Rattle.rv_shape.specs.Catalogue.{UnitObject, UnitTask, OperationNumber, handler, place}
use Rattle.rv_shape.specs.Limits.{last_line, first_line_priority}
use Rattle.rv_shape.specs.Readers.{actor_task}
use Rattle.rv_shape.specs.Shape.{Shape}
use Rattle.rv_never.specs.Denied.{DeniesLine, DeniesUnit}
use Rattle.rv_never.specs.Written.{is_among}
use Rattle.rv_never.specs.declared.calls.Called.{Called}
use Rattle.rv_never.specs.declared.calls.TaskCalls.{TaskCalls}
use Rattle.rv_never.specs.declared.calls.UnitCalls.{UnitCalls}
use Rattle.rv_never.specs.declared.note.Never.{Never}
use Rattle.rv_never.specs.declared.note.Never.TheVariants.{Denied, Above, LineDenied, LineAbove}

-- Calls

-- all that these tasks call in their own bodies
abbrev pub calls_of : List TaskCalls → List Called
calls_of tasks = flat_map (λ task. task.calls.items) tasks

-- a task of the unit of a number calls the operation in its own body
abbrev pub unit_calls : List UnitCalls → ℕ → Called → Bool
unit_calls units unit called = list_any (λ calls. (calls.unit == unit) && is_among (calls_of calls.tasks.items) called) units

-- a task calls an operation of the object in its own body
abbrev pub names_object : ℕ → TaskCalls → Bool
names_object object task = list_any (λ called. called.object == object) task.calls.items

-- the task that is an actor does
abbrev pub task_calls : List UnitCalls → ℕ → ℕ → Bool
task_calls units actor object =
    list_any (λ calls. list_any (λ task. (task.actor == actor) && names_object object task) calls.tasks.items) units

-- Ceilings (D.3)

-- an object's ceiling is below a priority; a suspension object has none
abbrev pub is_below : ℕ → Object → Bool
is_below priority (Protected object) = nat_lt object.ceiling priority
is_below priority (Suspension object) = false

-- the same of the object of a number, if there is one
abbrev pub is_below_at : ℕ → Option UnitObject → Bool
is_below_at priority None = false
is_below_at priority (Some at) = is_below priority at.object

-- the object's ceiling is below the base priority of a task, if there is one (D.1)
abbrev pub is_above : Option UnitTask → Option UnitObject → Bool
is_above None object = false
is_above (Some at) object = is_below_at at.task.priority object

-- the priority of a line (C.3, own)
abbrev pub line_priority : ℕ → ℕ
line_priority line = first_line_priority + line

-- the ceiling of the object of a line's handler is below the line's priority, if it has one
abbrev pub is_handler_low : List Shape → ℕ → Option OperationNumber → Bool
is_handler_low shapes line None = false
is_handler_low shapes line (Some at) = is_below_at (line_priority line) (place shapes at.object)

-- Notes. Of lines they are told where these had no handler in the units before: that a unit which is loaded is told of its own.

-- a call that the list denies, at each tick from one on
abbrev pub IsDenial : List Shape → List Shape → List UnitCalls → List Words → ℕ → Never → Type 0
IsDenial before shapes units list clock (Denied unit object operation) =
    (unit_calls units unit (record { object = object; operation = operation }) ≡ true) × DeniesUnit shapes list clock unit object operation
IsDenial before shapes units list clock (Above actor object) = ⊥
IsDenial before shapes units list clock (LineDenied line) = (line ≤ last_line) × (handler before line ≡ None) × DeniesLine shapes list clock line
IsDenial before shapes units list clock (LineAbove line) = ⊥

-- a call that a ceiling forbids
abbrev pub IsTooHigh : List Shape → List Shape → List UnitCalls → Never → Type 0
IsTooHigh before shapes units (Denied unit object operation) = ⊥
IsTooHigh before shapes units (Above actor object) =
    (task_calls units actor object ≡ true) × (is_above (actor_task shapes actor) (place shapes object) ≡ true)
IsTooHigh before shapes units (LineDenied line) = ⊥
IsTooHigh before shapes units (LineAbove line) =
    (line ≤ last_line) × (handler before line ≡ None) × (is_handler_low shapes line (handler shapes line) ≡ true)

-- a note is among these exactly where it is due
abbrev pub AreAll : (Never → Type 0) → List Never → Type 0
AreAll Due notes = (note : Never) → Contains notes note ↔ Due note

-- the notes that are due came behind others
pub record Adds (Due : Never → Type 0) (before after : List Never) : Type 0 where
  pub kept : (note : Never) → Contains before note → Contains after note
  pub due : (note : Never) → Contains after note → Contains before note ⊎ Due note
  pub all : (note : Never) → Due note → Contains after note

-- this note, where that holds
abbrev pub IsThis : Never → Type 0 → Never → Type 0
IsThis this Holds note = (note ≡ this) × Holds

-- a note that one of these makes due
abbrev pub DueBy : {X : Type 0} → (X → Never → Type 0) → List X → Never → Type 0
DueBy Due [] note = ⊥
DueBy Due (x ∷ xs) note = Due x note ⊎ DueBy Due xs note

-- a note that a number below makes due
abbrev pub DueBelow : (ℕ → Never → Type 0) → ℕ → Never → Type 0
DueBelow Due end note = (number : ℕ) × (number < end) × Due number note

-- a note on one call, on one line
abbrev pub IsDenialOf : List Shape → List Words → ℕ → ℕ → Called → Never → Type 0
IsDenialOf shapes list clock unit called = IsThis (Denied unit called.object called.operation) (DeniesUnit shapes list clock unit called.object called.operation)

abbrev pub IsLineDenial : List Shape → List Shape → List Words → ℕ → ℕ → Never → Type 0
IsLineDenial before shapes list clock line = IsThis (LineDenied line) ((handler before line ≡ None) × DeniesLine shapes list clock line)

abbrev pub IsTooHighOf : List Shape → ℕ → Called → Never → Type 0
IsTooHighOf shapes actor called = IsThis (Above actor called.object) (is_above (actor_task shapes actor) (place shapes called.object) ≡ true)

abbrev pub IsLineTooHigh : List Shape → List Shape → ℕ → Never → Type 0
IsLineTooHigh before shapes line = IsThis (LineAbove line) ((handler before line ≡ None) × (is_handler_low shapes line (handler shapes line) ≡ true))

-- what is due of the calls of a unit, of a task, and of the tasks of a unit
abbrev pub OfUnit : List Shape → List Words → ℕ → UnitCalls → Never → Type 0
OfUnit shapes list clock calls = DueBy (IsDenialOf shapes list clock calls.unit) (calls_of calls.tasks.items)

abbrev pub OfTask : List Shape → TaskCalls → Never → Type 0
OfTask shapes task = DueBy (IsTooHighOf shapes task.actor) task.calls.items

abbrev pub OfTasks : List Shape → UnitCalls → Never → Type 0
OfTasks shapes calls = DueBy (OfTask shapes) calls.tasks.items
