-- What is due, as a journal fills (own).
use Rattle.std.specs.Prelude.{ℕ, ◌+◌, ◌-◌, ◌/◌, nat_le, nat_lt, if◌then◌else◌, Bool, true, false, ◌&&◌, List, length, Option, Some, None}
use Rattle.rv_shape.specs.Catalogue.{all_tasks}
use Rattle.rv_shape.specs.Shape.{Shape}
use Rattle.rv_tally.specs.Watching.{Watch}
use Rattle.rv_tally.specs.declared.guard.Due.{Due}
use Rattle.rv_tally.specs.declared.guard.Due.TheVariants.{Nothing, Tell, Halt}
use Rattle.rv_tally.specs.declared.guard.Level.{Level}
use Rattle.rv_tally.specs.declared.guard.Level.TheVariants.{Ample, Half, Quarter, Tenth, Spent}

-- Room

-- how late a level comes
abbrev pub rank : Level → ℕ
rank Ample = 0
rank Half = 1
rank Quarter = 2
rank Tenth = 3
rank Spent = 4

-- what is kept for the ends of tasks and the halt
abbrev pub kept_free : List Shape → ℕ
kept_free shapes = length (all_tasks shapes) + 1

-- the level of so much room of a capacity, of which some is kept for the ends
abbrev pub level_at : ℕ → ℕ → ℕ → Level
level_at capacity left kept =
    if nat_le left kept then Spent
    else if nat_le left (capacity / 10) then Tenth
    else if nat_le left (capacity / 4) then Quarter
    else if nat_le left (capacity / 2) then Half
    else Ample

abbrev pub is_below : Option ℕ → ℕ → Bool
is_below None left = false
is_below (Some least) left = nat_lt left least

-- What is due

-- a level is told before the end
abbrev pub chosen : Bool → Bool → Level → Due
chosen true ends now = Tell now
chosen false true now = Halt
chosen false false now = Nothing

-- a level that comes later than the one that was told is to be told
abbrev pub is_to_tell : Watch → Level → Bool
is_to_tell watch now = watch.tells && nat_lt (rank watch.told) (rank now)

abbrev pub due_at : Watch → Level → ℕ → Due
due_at watch now left = chosen (is_to_tell watch now) (is_below watch.halt_below left) now

-- what is due behind so many of a capacity's entries
abbrev pub due : Watch → List Shape → ℕ → ℕ → Due
due watch shapes capacity used = due_at watch (level_at capacity (capacity - used) (kept_free shapes)) (capacity - used)

-- What was done

-- nothing was done yet
abbrev pub watch_of : Option ℕ → Bool → Watch
watch_of halt_below tells = record { halt_below = halt_below; tells = tells; told = Ample }

-- what is due was done
abbrev pub noted : Watch → Due → Watch
noted watch Nothing = watch
noted watch (Tell now) = record watch { told = now }
noted watch Halt = watch
