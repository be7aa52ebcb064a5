-- What is asked of the host, and what its answers come to (ISO/IEC 8652:2012, 9.5.1, 9.5.3, 9.6, D.8, D.10).
use Rattle.std.specs.Prelude.{ℕ, zero, suc, ℤ, pos, int_le, List, [], ◌∷◌, Bool, true, false, ◌&&◌, if◌then◌else◌, Option, Some, None, Result, Ok, Err, slice_index_or}
use Rattle.rv_value.specs.Arithmetic.{is_zero}
use Rattle.rv_event.specs.declared.entry.Answer.{Answer}
use Rattle.rv_event.specs.declared.entry.Answer.TheVariants as answer
use Rattle.rv_event.specs.declared.entry.Exception.{Exception}
use Rattle.rv_event.specs.declared.entry.Exception.TheVariants.{ProgramError, AccessDenied}
use Rattle.rv_event.specs.declared.entry.Exit.{Exit}
use Rattle.rv_event.specs.declared.entry.Exit.TheVariants as exit
use Rattle.rv_event.specs.declared.entry.Request.{Request}
use Rattle.rv_event.specs.declared.entry.Request.TheVariants as request
use Rattle.rv_event.specs.declared.entry.Rule.{Rule}
use Rattle.rv_event.specs.declared.entry.Rule.TheVariants as rule
use Rattle.rv_code.specs.declared.expression.Callee.{Callee}
use Rattle.rv_code.specs.declared.expression.Callee.TheVariants as callee
use Rattle.rv_exec.specs.declared.end.Asked.{Asked}
use Rattle.rv_exec.specs.declared.end.Asked.TheVariants as asked
use Rattle.rv_exec.specs.declared.end.Reply.{Reply}
use Rattle.rv_exec.specs.declared.end.Reply.TheVariants as reply
use Rattle.rv_exec.specs.declared.end.Cause.{Cause}
use Rattle.rv_exec.specs.declared.end.Cause.TheVariants as cause
use Rattle.rv_exec.specs.Asking.{Asking, ended, asking}

-- the operation of the same object, where it is an internal call (9.5)
abbrev pub internal : Callee → Option ℕ
internal (callee.Internal operation) = Some operation
internal other = None

-- whether it is a call of a protected operation (9.5.1, 9.5.3)
abbrev pub is_protected : Callee → Bool
is_protected (callee.Function object operation) = true
is_protected (callee.Procedure object operation) = true
is_protected (callee.Entry object operation) = true
is_protected other = false

-- the request that asks it of the host; the operations of a suspension object have the numbers 1 to 4 (D.10); an internal
-- call is asked of none, and an entry of the same object as one of its object
abbrev pub request_of : Callee → List ℤ → Request
request_of (callee.Internal operation) values = request.Clock
request_of (callee.OwnEntry operation) values = request.Clock
request_of (callee.Function object operation) values = request.Call object operation values
request_of (callee.Procedure object operation) values = request.Call object operation values
request_of (callee.Entry object operation) values = request.Call object operation values
request_of (callee.SetTrue object) values = request.Call object 1 []
request_of (callee.SetFalse object) values = request.Call object 2 []
request_of (callee.CurrentState object) values = request.Call object 3 []
request_of (callee.SuspendUntilTrue object) values = request.Call object 4 []
request_of callee.DelayUntil values = request.DelayUntil (slice_index_or values 0 (pos 0))
request_of callee.Clock values = request.Clock

-- the exception of a refusal: Host.Access_Denied of the access list, else Program_Error (9.5.1, D.3, D.7, D.10)
abbrev pub refusal : Rule → Exception
refusal rule.Grant = AccessDenied
refusal other = ProgramError

-- what asked is abandoned: whether the actor is left waiting for nothing
abbrev pub stops : Bool → Reply
stops is_idle = reply.Settled (asked.Abandoned (cause.Stopped is_idle))

abbrev pub gives : List ℤ → Reply
gives values = reply.Settled (asked.Given values)

-- the answer Started: the body of a protected operation follows
abbrev pub started : Callee → List ℤ → Reply
started (callee.Function object operation) components = reply.Settled (asked.Started object operation true components)
started (callee.Procedure object operation) components = reply.Settled (asked.Started object operation false components)
started (callee.Entry object operation) components = reply.Settled (asked.Started object operation false components)
started other components = stops false

-- the answer Queued: an entry call waits
abbrev pub queued : Callee → Reply
queued (callee.Entry object operation) = reply.Waits
queued other = stops false

-- the answer Suspended
abbrev pub suspended : Callee → Reply
suspended (callee.SuspendUntilTrue object) = reply.Waits
suspended other = stops false

-- the answer Delayed
abbrev pub delayed : Callee → Reply
delayed callee.DelayUntil = reply.Waits
delayed other = stops false

-- whether it is an entry call (9.5.3)
abbrev pub is_entry : Callee → Bool
is_entry (callee.Entry object operation) = true
is_entry other = false

-- whether it is Suspend_Until_True (D.10)
abbrev pub is_suspension : Callee → Bool
is_suspension (callee.SuspendUntilTrue object) = true
is_suspension other = false

-- whether it may block: an entry call, a delay or Suspend_Until_True (9.5.1, D.10)
abbrev pub may_block : Callee → Bool
may_block (callee.Entry object operation) = true
may_block (callee.SuspendUntilTrue object) = true
may_block callee.DelayUntil = true
may_block other = false

-- whether the access list is asked: delays and Clock are no calls of an object (own)
abbrev pub is_listed : Callee → Bool
is_listed callee.DelayUntil = false
is_listed callee.Clock = false
is_listed other = true

-- whether the host refuses such a request by that rule (9.5.1, D.3, D.7, D.10; rule 1 own)
abbrev pub can_refuse : Callee → Rule → Bool
can_refuse c rule.Grant = is_listed c
can_refuse c rule.Blocking = may_block c
can_refuse c rule.Reentry = is_protected c
can_refuse c rule.Ceiling = is_protected c
can_refuse c rule.Queue = is_entry c
can_refuse c rule.Waiter = is_suspension c

-- the answer Refused
abbrev pub refused : Callee → Rule → Reply
refused c rule = if can_refuse c rule then reply.Settled (asked.Abandoned (cause.Raised (refusal rule))) else stops true

-- the answer Accepted, where it reads nothing (own)
abbrev pub done : ℤ → Reply
done value = if is_zero value then gives [] else stops true

-- the answer Accepted of Current_State, which reads 1 for True and 0 for False (D.10)
abbrev pub state : ℤ → Reply
state value = if int_le (pos 0) value && int_le value (pos 1) then gives (value ∷ []) else stops true

-- the answer Accepted, with the value read
abbrev pub accepted : Callee → ℤ → Reply
accepted callee.Clock value = gives (value ∷ [])
accepted (callee.CurrentState object) value = state value
accepted (callee.SetTrue object) value = done value
accepted (callee.SetFalse object) value = done value
accepted (callee.SuspendUntilTrue object) value = done value
accepted callee.DelayUntil value = done value
accepted other value = stops true

-- what the first answer comes to; from one that the host doesn't give to such a request nothing goes on (own)
abbrev pub replied : Callee → Answer → Reply
replied c (answer.Started components) = started c components
replied c answer.Queued = queued c
replied c (answer.Refused rule line version) = refused c rule
replied c answer.Suspended = suspended c
replied c answer.Delayed = delayed c
replied c (answer.Accepted value) = accepted c value
replied c other = stops true

-- what a resume's answer Woken comes to: after a hand-over the body follows, else the wait is over
abbrev pub woken : Callee → Option (List ℤ) → Asked
woken (callee.Entry object operation) (Some components) = asked.Started object operation false components
woken (callee.SuspendUntilTrue object) None = asked.Given []
woken callee.DelayUntil None = asked.Given []
woken other values = asked.Abandoned (cause.Stopped false)

-- what a resume's answer Refused comes to: a queued call that was dropped, by rule 1, raises its exception (own)
abbrev pub dropped : Callee → Rule → Asked
dropped (callee.Entry object operation) rule.Grant = asked.Abandoned (cause.Raised AccessDenied)
dropped c other = asked.Abandoned (cause.Stopped false)

-- what the answer to a resume comes to (own)
abbrev pub resumed : Callee → Answer → Asked
resumed c (answer.Woken components) = woken c components
resumed c (answer.Refused rule line version) = dropped c rule
resumed c other = asked.Abandoned (cause.Stopped false)

abbrev pub settled : Callee → Reply → Asking Asked
settled c (reply.Settled what) = ended what
settled c reply.Waits = asking request.Resume (λ answer. ended (resumed c answer))

-- one request, and a resume where the actor waits
abbrev pub asks : Callee → List ℤ → Asking Asked
asks c values = asking (request_of c values) (λ answer. settled c (replied c answer))

-- whether a call of a protected operation finds the actor holding all that it may
abbrev pub is_past : ℕ → Callee → Bool
is_past zero c = is_protected c
is_past (suc held) c = false

-- the same, where the actor may hold so many more objects; past that a call raises Program_Error unasked (own)
unfoldable pub reached : ℕ → Callee → List ℤ → Asking Asked
reached held c values = if is_past held c then ended (asked.Abandoned (cause.Raised ProgramError)) else asks c values

-- what a body comes to: the values that it gives back, or why it is abandoned
abbrev pub Outcome : Type 0
Outcome = Result (List ℤ) Cause

-- how a body ends, for the host
abbrev pub exit_of : Outcome → Exit
exit_of (Ok values) = exit.Return values
exit_of (Err (cause.Raised exception)) = exit.Raise exception
exit_of (Err cause.Overrun) = exit.Overrun
exit_of (Err (cause.Stopped is_idle)) = exit.Stopped

-- what the caller of another object's operation sees of it: an overrun raises Program_Error (own)
abbrev pub seen : Outcome → Outcome
seen (Ok values) = Ok values
seen (Err (cause.Raised exception)) = Err (cause.Raised exception)
seen (Err cause.Overrun) = Err (cause.Raised ProgramError)
seen (Err (cause.Stopped is_idle)) = Err (cause.Stopped true)

abbrev pub completed : Outcome → Answer → Outcome
completed outcome (answer.Done next) = seen outcome
completed outcome other = Err (cause.Stopped false)

-- the request that ends a body by this exit, with the components as it leaves them, none for a function (9.5.1)
abbrev pub end_with : Bool → Exit → List ℤ → Request
end_with true exit components = request.Complete [] exit
end_with false exit components = request.Complete components exit

abbrev pub end_of : Bool → Outcome → List ℤ → Request
end_of is_function outcome components = end_with is_function (exit_of outcome) components

-- whether its actor is left waiting, or in a body that it called (own)
abbrev pub is_stuck : Outcome → Bool
is_stuck (Err (cause.Stopped false)) = true
is_stuck other = false

-- the end of a body is asked by this request; where its actor is left waiting, or in a body that it called, it isn't (own)
abbrev pub ends_by : Request → Outcome → Asking Outcome
ends_by request outcome = if is_stuck outcome then ended outcome else asking request (λ answer. ended (completed outcome answer))

abbrev pub completes : Bool → Outcome × (List ℤ × ℕ) → Asking Outcome
completes is_function (outcome, (components, steps)) = ends_by (end_of is_function outcome components) outcome
