-- Suspension objects as rv_suspend keeps them, and the history that they stand for (D.10).
use Rattle.std.specs.Prelude.{◌≡◌, ℕ, List, Option, Some, None, slice_index_or}
use Rattle.rv_event.specs.Past.{Touch, Waits, Sets, Clears, Untouched, state, state_after, waiter, waiter_after}
use Rattle.rv_event.specs.declared.entry.Entry.{Entry}
use Rattle.rv_event.specs.declared.entry.Entry.TheVariants.{Asked}
use Rattle.rv_event.specs.declared.entry.Request.TheVariants.{Call}
use Rattle.rv_suspend.specs.Suspension.{Suspension, initially}
use Rattle.rv_waiting.specs.declared.suspensions.Deed.{Deed}
use Rattle.rv_waiting.specs.declared.suspensions.Deed.TheVariants as Deeds

-- what an entry does, as the definitions name it
abbrev pub touch_of_deed : Deed → Touch
touch_of_deed (Deeds.Waits actor) = Waits actor
touch_of_deed Deeds.Sets = Sets
touch_of_deed Deeds.Clears = Clears
touch_of_deed Deeds.Untouched = Untouched

-- the object that an entry is a call of, if it is one
abbrev pub called : Entry → Option ℕ
called (Asked actor (Call object operation values) answer) = Some object
called entry = None

-- a suspension object after an entry; whom it releases is collected at once
abbrev pub suspension_after : Touch → Suspension → Suspension
suspension_after touch before =
    record {
      state = state_after touch before.waiter before.state;
      waiter = waiter_after touch before.waiter;
      released = None;
    }

-- the suspension object of a number after these entries
abbrev pub suspension_at : ℕ → List Entry → Suspension
suspension_at object past = record { state = state object past; waiter = waiter object past; released = None }

-- the suspension object of each number is as the entries leave it
abbrev pub AreSuspensions : List Entry → List Suspension → Type 0
AreSuspensions past suspensions =
    (object : ℕ) → slice_index_or suspensions object initially ≡ suspension_at object past

-- whom each released was collected
abbrev pub AreCollected : List Suspension → Type 0
AreCollected suspensions = (object : ℕ) → (slice_index_or suspensions object initially).released ≡ None
