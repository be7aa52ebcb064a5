-- What an entry begins and ends: waits (9.5.3, D.10), bodies (9.5.1) and delays (9.6) (own).
use Rattle.std.specs.Prelude.{ℕ, if◌then◌else◌, Option, Some, None}
use Rattle.rv_event.specs.Past.{is_set, ticks_in, touch_of}
use Rattle.rv_event.specs.declared.entry.Body.{Body}
use Rattle.rv_event.specs.declared.entry.Entry.{Entry}
use Rattle.rv_event.specs.declared.entry.Entry.TheVariants.{Asked}
use Rattle.rv_event.specs.declared.entry.Recorded.TheVariants.{Delayed, Queued, Suspended, Woken}
use Rattle.rv_event.specs.declared.entry.Request.TheVariants.{Call, DelayUntil, Resume}
use Rattle.rv_lasting.specs.declared.track.Begun.{Begun}

-- what began by an entry of this number, at this tick
abbrev pub since : ℕ → ℕ → Body → Begun
since number tick call = record { call = call; number = number; tick = tick }

-- the call that an entry leaves waiting, in a queue or on a suspension object
abbrev pub waiting_by : Entry → Option Body
waiting_by (Asked actor (Call object operation values) Queued) =
    Some (record { actor = actor; object = object; operation = operation })
waiting_by (Asked actor (Call object operation values) Suspended) =
    Some (record { actor = actor; object = object; operation = operation })
waiting_by entry = None

-- the suspension object that an entry sets to True
abbrev pub set_on : Entry → Option ℕ
set_on (Asked actor (Call object operation values) answer) =
    if is_set (touch_of (Asked actor (Call object operation values) answer)) then Some object else None
set_on entry = None

-- a delay is of no object, and counts since its time
abbrev pub delay_of : ℕ → ℕ → ℕ → Begun
delay_of actor number time = since number time (record { actor = actor; object = 0; operation = 0 })

-- the delay that an entry of this number begins
abbrev pub delay_by : Entry → ℕ → Option Begun
delay_by (Asked actor (DelayUntil time) Delayed) number = Some (delay_of actor number (ticks_in time))
delay_by entry number = None

-- the actor that an entry wakes, by its own resume
abbrev pub woken_by : Entry → Option ℕ
woken_by (Asked actor Resume Woken) = Some actor
woken_by entry = None
