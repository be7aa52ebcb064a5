-- Why a run stops (own).
use Rattle.std.specs.Prelude.{◌≡◌, ◌⊎◌, ℕ, ℤ, Bool, true, false, List, [], ◌∷◌, None}
use Rattle.rv_code.specs.declared.expression.Callee.{Callee}
use Rattle.rv_code.specs.Bodies.{UnitBodies}
use Rattle.rv_fits.specs.Calls.{every_call}
use Rattle.rv_event.specs.declared.entry.Answer.{Answer}
use Rattle.rv_event.specs.declared.entry.Answer.TheVariants as answer
use Rattle.rv_event.specs.declared.entry.Exit.TheVariants as exit
use Rattle.rv_event.specs.declared.entry.Request.{Request}
use Rattle.rv_event.specs.declared.entry.Request.TheVariants as requests
use Rattle.rv_exec.specs.declared.end.Asked.{Asked}
use Rattle.rv_exec.specs.declared.end.Asked.TheVariants as asked
use Rattle.rv_exec.specs.declared.end.Cause.TheVariants as cause
use Rattle.rv_exec.specs.declared.end.Reply.{Reply}
use Rattle.rv_exec.specs.declared.end.Reply.TheVariants as reply
use Rattle.rv_exec.specs.Asking.{Trace, Along}
use Rattle.rv_exec.specs.Blocks.{operation_run_at}
use Rattle.rv_exec.specs.Calls.{internal, request_of, replied, resumed}
use Rattle.rv_exec.specs.Tasks.{task_run}

-- the answers behind which nothing goes on, whatever was asked: the host is halted, or has no room
abbrev pub is_final : Answer → Bool
is_final answer.Halted = true
is_final answer.Full = true
is_final other = false

-- the answers behind which no body goes on: the host is halted, has no room, or the request doesn't fit
abbrev pub stops_bodies : Answer → Bool
stops_bodies answer.Halted = true
stops_bodies answer.Full = true
stops_bodies answer.Misuse = true
stops_bodies other = false

abbrev pub is_stopped : Asked → Bool
is_stopped (asked.Abandoned (cause.Stopped is_idle)) = true
is_stopped other = false

abbrev pub stops_at_once : Reply → Bool
stops_at_once (reply.Settled what) = is_stopped what
stops_at_once reply.Waits = false

-- an answer of a form that the host doesn't give to such a request of such a callee
abbrev pub IsUnfit : (Callee → Bool) → Request → Answer → Type 0
IsUnfit such request answer =
    (is_final answer ≡ false)
    × (c : Callee)
    × (internal c ≡ None)
    × (such c ≡ true)
    × (values : List ℤ)
    × (request ≡ request_of c values)
    × (stops_at_once (replied c answer) ≡ true)

-- the same to the resume of such a callee's request, which was answered to wait
abbrev pub IsUnfitWoken : (Callee → Bool) → Request → Answer → Request → Answer → Type 0
IsUnfitWoken such first wait request answer =
    (is_final answer ≡ false)
    × (c : Callee)
    × (such c ≡ true)
    × (values : List ℤ)
    × (first ≡ request_of c values)
    × (replied c wait ≡ reply.Waits)
    × (request ≡ requests.Resume)
    × (is_stopped (resumed c answer) ≡ true)

-- the end of a body is answered, and not by Done
abbrev pub EndsNot : Request → Answer → Type 0
EndsNot (requests.Complete components exit) (answer.Done next) = ⊥
EndsNot (requests.Complete components exit) other = Unit {0}
EndsNot request answer = ⊥

-- the answer stops what asked
abbrev pub Stops : (Callee → Bool) → Request → Answer → Type 0
Stops such request answer = (is_final answer ≡ true) ⊎ (EndsNot request answer ⊎ IsUnfit such request answer)

-- what is still asked behind a stop: the ends of bodies by stopped, and of the task
abbrev pub unwinds : Request → Bool
unwinds (requests.Complete components exit.Stopped) = true
unwinds requests.Quit = true
unwinds other = false

abbrev pub Unwinds : Trace → Type 0
Unwinds [] = Unit {0}
Unwinds (pair ∷ more) = (unwinds pair.0 ≡ true) × Unwinds more

-- what comes right behind this first answer stopped what asked, and behind it come ends by stopped alone
abbrev pub StopsWaiting : (Callee → Bool) → Request × Answer → Trace → Type 0
StopsWaiting such first [] = ⊥
StopsWaiting such first (pair ∷ more) = IsUnfitWoken such first.0 first.1 pair.0 pair.1 × Unwinds more

-- an answer stopped what asked, and behind it come ends by stopped alone
abbrev pub StopsIn : (Callee → Bool) → Trace → Type 0
StopsIn such [] = ⊥
StopsIn such (pair ∷ more) =
    (Stops such pair.0 pair.1 × Unwinds more) ⊎ (StopsWaiting such pair more ⊎ StopsIn such more)

-- a body exits by stopped only where an answer, to it or to a body inside it, stopped it: one of a form that isn't given was
-- one to a callee that the bodies name
abbrev pub BodiesStopBy : Type 0
BodiesStopBy =
    (such : Callee → Bool) (bodies : UnitBodies) (held object operation : ℕ) (values components left : List ℤ) (trace : Trace)
    → every_call such bodies ≡ true
    → Along (operation_run_at bodies held object operation values components) trace (exit.Stopped, left) → StopsIn such trace

-- and so does a task
abbrev pub TasksStopBy : Type 0
TasksStopBy =
    (such : Callee → Bool) (bodies : UnitBodies) (actor requests : ℕ) (trace : Trace)
    → every_call such bodies ≡ true
    → Along (task_run bodies actor requests) trace exit.Stopped → StopsIn such trace
