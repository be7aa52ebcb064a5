-- The states of the suspension objects, as they are kept (D.10).
use Rattle.std.specs.Prelude.{◌≡◌, ℕ, nat_eq, Bool, true, false, ◌==◌, ◌&&◌, not, if◌then◌else◌, List, Option, Some, None, is_some}
use Rattle.std.specs.HashMap.{get}
use Rattle.rv_event.specs.Past.{Clears, Sets, Touch, Untouched, Waits, state, touch_of, waiter}
use Rattle.rv_event.specs.declared.entry.Entry.{Entry}
use Rattle.rv_event.specs.declared.entry.Entry.TheVariants.{Asked}
use Rattle.rv_event.specs.declared.entry.Request.TheVariants.{Call}
use Rattle.rv_state.specs.declared.states.Put.{Put}
use Rattle.rv_state.specs.declared.states.States.{States}

abbrev pub or_false : Option Bool → Bool
or_false None = false
or_false (Some state) = state

-- the state that is kept of an object
abbrev pub kept_state : States → ℕ → Bool
kept_state it object = or_false (get nat_eq it.items object)

abbrev pub KeepsStates : States → List Entry → Type 0
KeepsStates it past = (object : ℕ) → kept_state it object ≡ state object past

-- what a deed on an object puts its state to, where nobody waits there
abbrev pub put_as : ℕ → Touch → Option Put
put_as object (Waits actor) = Some (record { object = object; state = false })
put_as object Sets = Some (record { object = object; state = true })
put_as object Clears = Some (record { object = object; state = false })
put_as object Untouched = None

-- by an entry
abbrev pub put_by : Entry → Option Put
put_by (Asked actor (Call object operation values) answer) = put_as object (touch_of (Asked actor (Call object operation values) answer))
put_by entry = None

-- the state of an object behind that
abbrev pub state_by : List Entry → Option Put → ℕ → Bool → Bool
state_by past None object before = before
state_by past (Some it) object before =
    if it.object == object then it.state && not (is_some (waiter it.object past)) else before
