-- How many entries a journal has to hold, so that the operator has some left whatever units do (own).
use Rattle.std.specs.Prelude.{ℕ, ◌+◌, ◌*◌, ◌≤◌, Bool, true, false, List, length}
use Rattle.std.specs.List.{filter}
use Rattle.rv_shape.specs.Catalogue.{all_tasks}
use Rattle.rv_event.specs.declared.entry.Entry.{Entry}
use Rattle.rv_event.specs.declared.entry.Entry.TheVariants.{Asked, Load, ListChange}
use Rattle.rv_event.specs.declared.entry.Request.{Request}
use Rattle.rv_event.specs.declared.entry.Request.TheVariants.{Tick, Archive}
use Rattle.rv_history.specs.History.{History}

-- a request that is the operator's alone, and for which no room is kept free: ticks and archives
abbrev pub is_operators : Request → Bool
is_operators (Tick n) = true
is_operators (Archive number) = true
is_operators request = false

-- an entry that is the operator's: a load, a list change, ticks or an archive; the halt is owed from the first entry on
abbrev pub is_own : Entry → Bool
is_own Load = true
is_own ListChange = true
is_own (Asked actor request word) = is_operators request

-- how many of these entries are the operator's
abbrev pub own : List Entry → ℕ
own past = length (filter is_own past)

-- how many entries come of so many units, whatever they do: three for each that is charged to one, since at most two follow from
-- it, and the end of each task
abbrev pub of_units : ℕ → ℕ → ℕ → ℕ
of_units quota units tasks = 3 * (units * quota) + tasks

-- how many entries a journal has to hold with so many of the operator, of which some are still to come, and the halt
abbrev pub needed : ℕ → ℕ → ℕ → ℕ → ℕ
needed quota units tasks operators = of_units quota units tasks + operators + 1

-- how many it has to hold where so many more entries are kept for the operator
abbrev pub needs : ℕ → History → ℕ → ℕ
needs quota h kept = needed quota (length h.shapes) (length (all_tasks h.shapes)) (own h.past + kept)

-- so many more entries are kept for the operator, whatever units do
abbrev pub Keeps : ℕ → History → ℕ → Type 0
Keeps quota h kept = needs quota h kept ≤ h.limits.capacity
