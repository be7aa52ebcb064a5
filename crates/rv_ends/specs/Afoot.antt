-- The bodies that are afoot behind the entries of a history: with what each was started, and what its actor asked since, with
-- the answers (9.5.1, 9.5.3, C.3).
use Rattle.std.specs.Prelude.{◌≡◌, ℕ, ◌-◌, suc, ℤ, Bool, true, false, ◌==◌, not, ◌&&◌, if◌then◌else◌, List, [], ◌∷◌, ◌++◌, map, length, Option, Some, None}
use Rattle.std.specs.List.{filter}
use Rattle.rv_access.specs.Words.{Words}
use Rattle.rv_shape.specs.Shape.{Shape}
use Rattle.rv_shape.specs.Catalogue.{OperationNumber, handler}
use Rattle.rv_event.specs.Past.{named_in, scalars}
use Rattle.rv_event.specs.declared.entry.Answer.{Answer}
use Rattle.rv_event.specs.declared.entry.Answer.TheVariants.{Started, Queued, Done}
use Rattle.rv_event.specs.declared.entry.Entry.{Entry}
use Rattle.rv_event.specs.declared.entry.Entry.TheVariants.{Asked, Load, ListChange}
use Rattle.rv_event.specs.declared.entry.Next.{Next}
use Rattle.rv_event.specs.declared.entry.Next.TheVariants.{Nothing, HandedTo, Dropped}
use Rattle.rv_event.specs.declared.entry.Request.{Request}
use Rattle.rv_event.specs.declared.entry.Request.TheVariants.{Call, Complete, Settle, Fire, Resume}
use Rattle.rv_exec.specs.Asking.{Trace}
use Rattle.rv_history.specs.Due.{out}
use Rattle.rv_history.specs.History.{History}
use Rattle.rv_history.specs.declared.limits.Limits.{Limits}
use Rattle.rv_ends.specs.declared.afoot.OpenBody.{OpenBody}
use Rattle.rv_ends.specs.declared.afoot.QueuedCall.{QueuedCall}
use Rattle.rv_ends.specs.declared.afoot.Start.{Start}

-- an open body: its start, and what its actor asked since, the oldest first
pub record Open : Type 0 where
  pub start : Start
  pub asked : Trace

abbrev pub open_view : OpenBody → Open
open_view body = record { start = body.start; asked = body.asked.items }

-- the calls that wait in queues, and the open bodies, the newest of both first
pub record Afoot : Type 0 where
  pub calls : List QueuedCall
  pub bodies : List Open

abbrev pub nothing_afoot : Afoot
nothing_afoot = record { calls = []; bodies = [] }

-- Queues (9.5.3)

abbrev pub is_queued : Answer → Bool
is_queued Queued = true
is_queued answer = false

-- the call that an answered request puts into a queue
abbrev pub queued : ℕ → Request → Answer → Option QueuedCall
queued actor (Call object operation values) answer =
    if is_queued answer then Some (record { actor = actor; object = object; operation = operation; values = values }) else None
queued actor request answer = None

-- what an answer says that becomes of a queue
abbrev pub next_of : Answer → Next
next_of (Done next) = next
next_of answer = Nothing

abbrev pub joined : Option QueuedCall → List QueuedCall → List QueuedCall
joined None calls = calls
joined (Some call) calls = call ∷ calls

-- the calls without those of an actor that was handed the object or dropped
abbrev pub left : Option ℕ → List QueuedCall → List QueuedCall
left None calls = calls
left (Some actor) calls = filter (λ call. not (call.actor == actor)) calls

-- the call of an actor
abbrev pub call_of : ℕ → List QueuedCall → Option QueuedCall
call_of actor [] = None
call_of actor (call ∷ calls) = if call.actor == actor then Some call else call_of actor calls

-- Asks

-- a body's asks are all of its actor's until its end, those of bodies inside it too; but a resume is none: it is part of the
-- call that waited; nor is a settle, which serves a queue on behind an end
abbrev pub is_ask : Request → Bool
is_ask Resume = false
is_ask Settle = false
is_ask request = true

abbrev pub with_ask : ℕ → Request → Answer → Open → Open
with_ask actor request answer body =
    if (body.start.actor == actor) && is_ask request then record body { asked = body.asked ++ (request, answer) ∷ [] } else body

-- Ends and starts (9.5.1)

abbrev pub is_end : Request → Bool
is_end (Complete components exit) = true
is_end request = false

-- without the newest open body of an actor
abbrev pub without : ℕ → List Open → List Open
without actor [] = []
without actor (body ∷ bodies) = if body.start.actor == actor then bodies else body ∷ without actor bodies

abbrev pub closed : ℕ → Request → List Open → List Open
closed actor request bodies = if is_end request then without actor bodies else bodies

-- how many objects an actor holds
abbrev pub holding : ℕ → List Open → ℕ
holding actor bodies = length (filter (λ body. body.start.actor == actor) bodies)

-- the body of a call that waited, which is handed the object with the components that these entries leave it
abbrev pub handed : List Shape → List Entry → ℕ → Option QueuedCall → Option Start
handed shapes entries held None = None
handed shapes entries held (Some call) =
    Some (record { actor = call.actor; object = call.object; operation = call.operation; values = call.values; components = scalars shapes call.object entries; held = suc held })

-- the same for whom an end or a settle names
abbrev pub handed_next : List Shape → List Entry → Afoot → Next → Option Start
handed_next shapes entries afoot Nothing = None
handed_next shapes entries afoot (HandedTo actor) = handed shapes entries (holding actor afoot.bodies) (call_of actor afoot.calls)
handed_next shapes entries afoot (Dropped actor line) = None

-- the components that a start carries
abbrev pub components_of : Answer → Option (List ℤ)
components_of (Started components) = Some components
components_of answer = None

-- the body of a call that was answered so, of an actor that holds so many objects
abbrev pub called : ℕ → ℕ → ℕ → List ℤ → ℕ → Option (List ℤ) → Option Start
called actor object operation values held None = None
called actor object operation values held (Some components) =
    Some (record { actor = actor; object = object; operation = operation; values = values; components = components; held = suc held })

-- the body of a handler, whose line fired and was answered so (C.3)
abbrev pub fired : ℕ → ℕ → Option OperationNumber → Option (List ℤ) → Option Start
fired actor held None components = None
fired actor held (Some at) components = called actor at.object at.operation [] held components

-- the body that an answered request starts, the last of these entries
abbrev pub started : List Shape → List Entry → Afoot → ℕ → Request → Answer → Option Start
started shapes entries afoot actor (Call object operation values) answer =
    called actor object operation values (holding actor afoot.bodies) (components_of answer)
started shapes entries afoot actor Fire answer = fired actor (holding actor afoot.bodies) (handler shapes (actor - 1)) (components_of answer)
started shapes entries afoot actor (Complete components exit) answer = handed_next shapes entries afoot (next_of answer)
started shapes entries afoot actor Settle answer = handed_next shapes entries afoot (next_of answer)
started shapes entries afoot actor request answer = None

abbrev pub begun : Option Start → List Open → List Open
begun None bodies = bodies
begun (Some start) bodies = record { start = start; asked = [] } ∷ bodies

-- Entries

-- what is afoot behind an answered request that is recorded, the last of these entries
abbrev pub answered : List Shape → List Entry → ℕ → Request → Answer → Afoot → Afoot
answered shapes entries actor request answer afoot = record {
  calls = joined (queued actor request answer) (left (named_in (next_of answer)) afoot.calls);
  bodies = begun (started shapes entries afoot actor request answer) (map (with_ask actor request answer) (closed actor request afoot.bodies));
}

-- This is afoot behind a history: each of its entries has the answer that was due behind those before it.
abbrev pub IsAfoot : Limits → List Entry → List Shape → List (List Words) → Afoot → Type 0
IsAfoot limits [] shapes lists afoot = afoot ≡ nothing_afoot
IsAfoot limits (Asked actor request word ∷ past) shapes lists afoot =
    (before : Afoot) × IsAfoot limits past shapes lists before
    × (afoot ≡ answered shapes (Asked actor request word ∷ past) actor request (out (record { limits = limits; past = past; shapes = shapes; lists = lists }) actor request) before)
IsAfoot limits (Load ∷ past) shapes lists afoot =
    (old : List Shape) × (shape : Shape) × (shapes ≡ old ++ shape ∷ []) × IsAfoot limits past old lists afoot
IsAfoot limits (ListChange ∷ past) shapes lists afoot =
    (old : List (List Words)) × (list : List Words) × (lists ≡ old ++ list ∷ []) × IsAfoot limits past shapes old afoot

abbrev pub AreAfoot : History → Afoot → Type 0
AreAfoot h afoot = IsAfoot h.limits h.past h.shapes h.lists afoot
