-- What the console shows of a host. (own)
use Rattle.std.specs.Prelude.{ℕ, ◌+◌, Bool, true, false, List, [], ◌∷◌, ◌++◌, codes, length, Option, Some, None}
use Rattle.std.specs.Fmt.{decimal}
use Rattle.rv_access.specs.Text.{line_text}
use Rattle.rv_access.specs.Words.{Words}
use Rattle.rv_event.specs.declared.entry.Entry.{Entry}
use Rattle.rv_event.specs.declared.entry.Mode.{Mode}
use Rattle.rv_event.specs.declared.entry.Mode.TheVariants.{Idle, InBody, Queued, Settling, Handed, Dropped, Suspended, Delayed, Ended}
use Rattle.rv_shape.specs.Catalogue.{UnitObject, dotted, first_task, place, who}
use Rattle.rv_shape.specs.Fits.{object_name as own_name}
use Rattle.rv_shape.specs.Printed.{actor_text}
use Rattle.rv_shape.specs.Shape.{Shape}
use Rattle.rv_tally.specs.Wording.{room_line}
use Rattle.rv_view.specs.Views.{Shown}

-- lines of these, the first of which has this number
abbrev pub lines_from : {A : Type 0} → (ℕ → A → List ℕ) → ℕ → List A → List ℕ
lines_from line number [] = []
lines_from line number (one ∷ more) = line number one ++ lines_from line (number + 1) more

-- The list

-- a line of a list behind its number
abbrev pub numbered_line : ℕ → Words → List ℕ
numbered_line number line = decimal number ++ 32 ∷ (line_text line ++ 10 ∷ [])

-- the version of the list in force, and its lines as `remove` and `replace` count them
abbrev pub list_text : Shown → List ℕ
list_text view = (codes "version " ++ (decimal view.version ++ 10 ∷ [])) ++ lines_from numbered_line 1 view.list

-- The status

-- what a mode is called
abbrev pub mode_word : Mode → List ℕ
mode_word Idle = codes "idle"
mode_word InBody = codes "in a body"
mode_word Queued = codes "queued"
mode_word Settling = codes "to settle an object"
mode_word Handed = codes "handed an object"
mode_word Dropped = codes "dropped from a queue"
mode_word Suspended = codes "suspended"
mode_word Delayed = codes "delayed"
mode_word Ended = codes "ended"

-- what a task is at
abbrev pub task_line : List Shape → ℕ → Mode → List ℕ
task_line shapes actor mode = codes "task " ++ (actor_text (who shapes actor) ++ (codes ": " ++ (mode_word mode ++ 10 ∷ [])))

abbrev pub name_at : Option UnitObject → List ℕ
name_at None = codes "?"
name_at (Some at) = dotted at.unit (own_name at.object)

-- the whole name of an object
abbrev pub object_name : List Shape → ℕ → List ℕ
object_name shapes object = name_at (place shapes object)

-- an actor behind a mark
abbrev pub marked_actor : List Shape → List ℕ → ℕ → List ℕ
marked_actor shapes mark actor = mark ++ actor_text (who shapes actor)

-- actors one behind another, with this mark before the first, and commas between them
abbrev pub actor_names : List Shape → List ℕ → List ℕ → List ℕ
actor_names shapes mark [] = []
actor_names shapes mark (actor ∷ actors) = marked_actor shapes mark actor ++ actor_names shapes (codes ", ") actors

-- who waits in the queue of an object, if somebody does
abbrev pub queue_line : List Shape → ℕ → List ℕ → List ℕ
queue_line shapes object [] = []
queue_line shapes object (caller ∷ callers) =
    ((codes "queue of " ++ (object_name shapes object ++ codes ":")) ++ actor_names shapes (codes " ") (caller ∷ callers)) ++ 10 ∷ []

-- who waits on a suspension object, if somebody does
abbrev pub waiter_line : List Shape → ℕ → Option ℕ → List ℕ
waiter_line shapes object None = []
waiter_line shapes object (Some actor) =
    codes "suspended on " ++ (object_name shapes object ++ (codes ": " ++ (actor_text (who shapes actor) ++ 10 ∷ [])))

abbrev pub halted_word : Bool → List ℕ
halted_word true = codes ", halted"
halted_word false = []

abbrev pub clock_line : Shown → List ℕ
clock_line view = codes "clock " ++ (decimal view.clock ++ (halted_word view.halted ++ 10 ∷ []))

-- how many entries may still come
abbrev pub place_line : Shown → List ℕ
place_line view = codes "room for " ++ (decimal view.room ++ codes " entries beside those that are owed\n")

abbrev pub list_line : Shown → List ℕ
list_line view = codes "list version " ++ (decimal view.version ++ (codes ", lines " ++ (decimal (length view.list) ++ 10 ∷ [])))

-- the clock, the room and the list
abbrev pub head_text : Shown → List ℕ
head_text view = (clock_line view ++ place_line view) ++ list_line view

-- what the tasks are at, and who waits where
abbrev pub actors_text : List Shape → Shown → List ℕ
actors_text shapes view =
    lines_from (task_line shapes) first_task view.modes
    ++ (lines_from (queue_line shapes) 1 view.queues ++ lines_from (waiter_line shapes) 1 view.waiters)

-- The clock, the room, the list, the tasks, who waits where, and, of the entries that were counted, how many the tasks of each
-- unit have added.
abbrev pub status_text : List Shape → List Entry → Shown → List ℕ
status_text shapes entries view =
    (head_text view ++ actors_text shapes view) ++ room_line shapes entries view.capacity view.used
