-- What the bodies of compiled units ask, and that it fits: it is what the host's own test of requests wants, of an actor that stands
-- where its own answers say (ISO/IEC 8652:2012, 6.4.1, 6.5, 9.5.1, 9.5.3, 9.6, C.3; limits own).
use Rattle.std.specs.Prelude.{◌≡◌, ℕ, suc, ℤ, Bool, true, false, ◌&&◌, not, if◌then◌else◌, List, [], ◌∷◌, length, map, Option, Some, None}
use Rattle.rv_event.specs.declared.entry.Answer.{Answer}
use Rattle.rv_event.specs.declared.entry.Answer.TheVariants as answer
use Rattle.rv_event.specs.declared.entry.Exit.{Exit}
use Rattle.rv_event.specs.declared.entry.Exit.TheVariants as exit
use Rattle.rv_event.specs.declared.entry.Request.{Request}
use Rattle.rv_event.specs.declared.entry.Request.TheVariants as request
use Rattle.rv_shape.specs.Catalogue.{OperationNumber, Target, OnProtected, target, shares}
use Rattle.rv_shape.specs.Shape.{Shape}
use Rattle.rv_code.specs.Bodies.{UnitBodies}
use Rattle.rv_fits.specs.Fits.{calls_fit}
use Rattle.rv_ranged.specs.Ranged.{catalogue_ranged}
use Rattle.rv_history.specs.Fitting.{all_fit, ranges_in, call_fits, end_at, is_time}
use Rattle.rv_exec.specs.Asking.{Asking, ended, asking}
use Rattle.rv_exec.specs.Blocks.{operation_run_at}
use Rattle.rv_exec.specs.Tasks.{task_run, line_run}

-- Where an actor is: whether it is a line; the bodies that it is in, which called one another, each by its operation, the innermost
-- first; and whether it waits to be resumed.
pub record Standing : Type 0 where
  pub is_line : Bool
  pub inside : List OperationNumber
  pub waits : Bool

-- What starts where it next wakes or fires is beside that: the entry in whose queue it waits, or the handler of its line.

-- it doesn't wait
abbrev pub free : Bool → List OperationNumber → Standing
free is_line inside = record { is_line = is_line; inside = inside; waits = false }

-- Starts

-- the body that an answer starts, with the scalars that it brings
pub record Start : Type 0 where
  pub operation : OperationNumber
  pub scalars : List ℤ

abbrev pub started_by : OperationNumber → List ℤ → Request → Option Start
started_by next scalars (request.Call object operation values) =
    Some (record { operation = record { object = object; operation = operation }; scalars = scalars })
started_by next scalars request.Fire = Some (record { operation = next; scalars = scalars })
started_by next scalars other = None

abbrev pub woken_by : OperationNumber → List ℤ → Request → Option Start
woken_by next scalars request.Resume = Some (record { operation = next; scalars = scalars })
woken_by next scalars other = None

-- a call or a fire is answered Started, or a resume Woken with scalars (9.5.1, 9.5.3, C.3)
abbrev pub start_of : OperationNumber → Request → Answer → Option Start
start_of next request (answer.Started scalars) = started_by next scalars request
start_of next request (answer.Woken (Some scalars)) = woken_by next scalars request
start_of next request other = None

-- scalars are those of the object: one in the range of each component (9.4)
abbrev pub are_of_object : List ℤ → Target → Bool
are_of_object scalars (OnProtected site) = all_fit (map (λ c. c.range) site.object.components) scalars
are_of_object scalars other = true

abbrev pub brings : List Shape → Option Start → Bool
brings shapes None = true
brings shapes (Some start) = are_of_object start.scalars (target shapes start.operation.object start.operation.operation)

-- an answer is a good one: a start brings scalars of its object
abbrev pub is_good : List Shape → OperationNumber → Request → Answer → Bool
is_good shapes next request answer = brings shapes (start_of next request answer)

-- Where it is then

abbrev pub outer_of : List OperationNumber → List OperationNumber
outer_of [] = []
outer_of (here ∷ outer) = outer

abbrev pub left_by : List OperationNumber → Request → List OperationNumber
left_by inside (request.Complete scalars exit) = outer_of inside
left_by inside other = inside

-- an end that is answered Done leaves the innermost body (9.5.1)
abbrev pub left_behind : List OperationNumber → Request → Answer → List OperationNumber
left_behind inside request (answer.Done next) = left_by inside request
left_behind inside request other = inside

abbrev pub entered : Option Start → List OperationNumber → List OperationNumber
entered None inside = inside
entered (Some start) inside = start.operation ∷ inside

abbrev pub inside_after : OperationNumber → List OperationNumber → Request → Answer → List OperationNumber
inside_after next inside request answer = entered (start_of next request answer) (left_behind inside request answer)

-- it waits behind the answers Queued, Suspended and Delayed (9.5.3, 9.6, D.10)
abbrev pub waits_behind : Answer → Bool
waits_behind answer.Queued = true
waits_behind answer.Suspended = true
waits_behind answer.Delayed = true
waits_behind other = false

abbrev pub standing_after : OperationNumber → Standing → Request → Answer → Standing
standing_after next s request answer = record {
  is_line = s.is_line;
  inside = inside_after next s.inside request answer;
  waits = waits_behind answer;
}

abbrev pub queued_by : OperationNumber → Request → OperationNumber
queued_by next (request.Call object operation values) = record { object = object; operation = operation }
queued_by next other = next

-- a call that is answered Queued waits in that entry's queue (9.5.3)
abbrev pub next_after : OperationNumber → Request → Answer → OperationNumber
next_after next request answer.Queued = queued_by next request
next_after next request other = next

-- Requests

abbrev pub ends_fit : List Shape → List ℤ → Exit → List OperationNumber → Bool
ends_fit shapes scalars exit [] = false
ends_fit shapes scalars exit (here ∷ outer) = end_at scalars exit (target shapes here.object here.operation)

-- it is in a body, or it is a task
abbrev pub calls_from : Bool → List OperationNumber → Bool
calls_from is_line [] = not is_line
calls_from is_line (here ∷ outer) = true

abbrev pub in_none : List OperationNumber → Bool
in_none [] = true
in_none (here ∷ outer) = false

-- one that doesn't wait may call, but for a line in no body (C.3)
abbrev pub may_call_at : Standing → Bool
may_call_at s = not s.waits && calls_from s.is_line s.inside

-- it is in no body, and doesn't wait
abbrev pub is_idle : Standing → Bool
is_idle s = not s.waits && in_none s.inside

-- a request of a text fits where it is made: a call names an operation, has a value in each range and finds no more than 15 objects
-- held; an end has one for each component and each value that goes back; a delay names a Time. One that waits asks its resume alone,
-- a line fires and a task quits where it is idle. No text settles, or asks what the operator does.
abbrev pub may_ask : List Shape → Standing → Request → Bool
may_ask shapes s (request.Call object operation values) =
    may_call_at s && call_fits (length s.inside) values (target shapes object operation)
may_ask shapes s (request.Complete scalars exit) = not s.waits && ends_fit shapes scalars exit s.inside
may_ask shapes s (request.DelayUntil time) = may_call_at s && is_time time
may_ask shapes s request.Resume = s.waits
may_ask shapes s request.Clock = may_call_at s
may_ask shapes s request.Fire = s.is_line && is_idle s
may_ask shapes s request.Quit = not s.is_line && is_idle s
may_ask shapes s other = false

-- each request fits, whatever good answers come, and this is said of where it ends
abbrev pub Asks : {A : Type 0} → List Shape → (Standing → A → Type 0) → OperationNumber → Standing → Asking A → Type 0
Asks shapes ends next s (ended a) = ends s a
Asks shapes ends next s (asking request more) =
    (may_ask shapes s request ≡ true)
    × ((answer : Answer) → is_good shapes next request answer ≡ true → Asks shapes ends (next_after next request answer) (standing_after next s request answer) (more answer))

-- Bodies

-- the bodies of a catalogue call what they call it for, and with values of the ranges wanted; and so they keep and give back values:
-- what is looked at where a text is compiled, and where a unit is loaded
pub record AreRanged (shapes : List Shape) (bodies : UnitBodies) : Type 0 where
  pub calls : calls_fit shapes bodies ≡ true
  pub ranges : catalogue_ranged shapes bodies ≡ true

-- values and scalars that a body of a protected operation starts with: one in the range of each of its `in` and `in out` parameters
-- and of each component of its object (9.5.1)
abbrev pub starts_fit : List ℤ → List ℤ → Target → Bool
starts_fit values scalars (OnProtected site) =
    all_fit (ranges_in site.operation.parameters) values && all_fit (map (λ c. c.range) site.object.components) scalars
starts_fit values scalars other = false

-- a function gives back no scalars (9.5.1)
abbrev pub left_scalars : Target → List ℤ → List ℤ
left_scalars site scalars = if shares site then [] else scalars

-- An exit and the scalars left are an end that fits the body; and by each exit but that by stopped the actor is in that body still,
-- and doesn't wait.
pub record EndsWell (shapes : List Shape) (here : Standing) (site : Target) (now : Standing) (last : Exit × List ℤ) : Type 0 where
  pub fits : end_at (left_scalars site last.1) last.0 site ≡ true
  pub stays : (last.0 ≡ exit.Stopped → ⊥) → now ≡ here

-- so a body of such bodies asks what fits, however many others it is called from, of a task or of a line
abbrev pub BodiesAskWhatFits : Type 0
BodiesAskWhatFits =
    (shapes : List Shape) (bodies : UnitBodies) (is_line : Bool) (here next : OperationNumber) (outer : List OperationNumber) (values scalars : List ℤ)
    → AreRanged shapes bodies
    → starts_fit values scalars (target shapes here.object here.operation) ≡ true
    → Asks shapes (EndsWell shapes (free is_line (here ∷ outer)) (target shapes here.object here.operation)) next (free is_line (here ∷ outer))
    (operation_run_at bodies (suc (length outer)) here.object here.operation values scalars)

-- a task does
abbrev pub TasksAskWhatFits : Type 0
TasksAskWhatFits =
    (shapes : List Shape) (bodies : UnitBodies) (actor requests : ℕ) (next : OperationNumber)
    → AreRanged shapes bodies → Asks shapes (λ s exit. Unit {0}) next (free false []) (task_run bodies actor requests)

-- an operation is a line's handler: it takes no values, and is no function (C.3.1)
abbrev pub may_handle : Target → Bool
may_handle (OnProtected site) = all_fit (ranges_in site.operation.parameters) [] && (if shares (OnProtected site) then false else true)
may_handle other = false

-- and so does a line
abbrev pub LinesAskWhatFits : Type 0
LinesAskWhatFits =
    (shapes : List Shape) (bodies : UnitBodies) (handler : OperationNumber)
    → AreRanged shapes bodies → may_handle (target shapes handler.object handler.operation) ≡ true
    → Asks shapes (λ s outcome. Unit {0}) handler (free true []) (line_run bodies handler.object handler.operation)
