-- What answers and exits come to for the caller. (own)
use Rattle.std.specs.Prelude.{ℤ, Bool, true, false, ◌==◌, List, [], ◌∷◌, Option, Some, None}
use Rattle.rv_event.specs.declared.entry.Request.{Request}
use Rattle.rv_event.specs.declared.entry.Request.TheVariants.{Call, DelayUntil, Clock, Fire}
use Rattle.rv_event.specs.declared.entry.Exit.{Exit}
use Rattle.rv_event.specs.declared.entry.Exit.TheVariants as Exits
use Rattle.rv_event.specs.declared.entry.Exception.TheVariants.{ProgramError}
use Rattle.rv_event.specs.declared.entry.Answer.{Answer}
use Rattle.rv_event.specs.declared.entry.Answer.TheVariants as Answers
use Rattle.rv_behind.specs.Events.{no_operation}
use Rattle.rv_behind.specs.declared.event.Begun.{Begun}
use Rattle.rv_port.specs.declared.reached.Reached.{Reached}
use Rattle.rv_port.specs.declared.reached.Reached.TheVariants as Reaches

-- the requests of which a call on a port is one performance (9.5.1, 9.5.3, 9.6, C.3, D.8, D.10)
abbrev pub Performs : Request → Type 0
Performs (Call object operation values) = Unit {0}
Performs (DelayUntil time) = Unit {0}
Performs Clock = Unit {0}
Performs Fire = Unit {0}
Performs request = ⊥

-- the values of a call (6.4.1)
abbrev pub arguments_of : Request → List ℤ
arguments_of (Call object operation values) = values
arguments_of request = []

-- whether a value is read: Current_State, the third operation of a suspension object, and Clock (D.10, D.8)
abbrev pub reads : Request → Bool
reads (Call object operation values) = operation == 3
reads Clock = true
reads request = false

-- the value that was read, if any is
abbrev pub values_of : Bool → ℤ → List ℤ
values_of true value = value ∷ []
values_of false value = []

-- what an answer that starts no body comes to
abbrev pub plain_of : Bool → Answer → Reached
plain_of is_read (Answers.Refused rule line version) = Reaches.Refused rule line version
plain_of is_read (Answers.Accepted value) = Reaches.Returned (values_of is_read value)
plain_of is_read (Answers.Woken None) = Reaches.Returned []
plain_of is_read Answers.Misuse = Reaches.Misuse
plain_of is_read answer = Reaches.Stopped

-- what an exit comes to: past its limit of steps it is Program_Error (11.4, own)
abbrev pub reached_by : Exit → Reached
reached_by (Exits.Return values) = Reaches.Returned values
reached_by (Exits.Raise exception) = Reaches.Raised exception
reached_by Exits.Overrun = Reaches.Raised ProgramError
reached_by Exits.Stopped = Reaches.Stopped

-- what the end of a body comes to
abbrev pub end_of : Answer → Exit → Reached
end_of (Answers.Done next) exit = reached_by exit
end_of answer exit = Reaches.Stopped

-- the scalars that a body starts on, by the answer that starts it (9.5.1, 9.5.3)
abbrev pub start_of : Answer → Option (List ℤ)
start_of (Answers.Started scalars) = Some scalars
start_of (Answers.Woken scalars) = scalars
start_of answer = None

-- the answer is that the actor waits (9.5.3, 9.6, D.10)
abbrev pub waits_on : Answer → Bool
waits_on Answers.Queued = true
waits_on Answers.Suspended = true
waits_on Answers.Delayed = true
waits_on answer = false

-- the entry that a queued call waits for; an entry is no function (9.5.2)
abbrev pub waited_for : Request → Begun
waited_for (Call object operation values) = record { object = object; operation = operation; is_function = false }
waited_for request = no_operation
