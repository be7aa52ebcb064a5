-- Worked rows (own): units, and commands with the answers that they get.
use Rattle.std.specs.Prelude.{◌≡◌, ℕ, ◌+◌, Bool, true, false, List, [], ◌∷◌, ◌++◌, ℤ, pos, codes, Some, None}
use Rattle.rv_access.specs.Words.{Words}
use Rattle.rv_shape.specs.declared.kind.Range.{Range}
use Rattle.rv_shape.specs.declared.kind.Component.{Component}
use Rattle.rv_shape.specs.declared.kind.ValueType.TheVariants.{Integer}
use Rattle.rv_shape.specs.declared.kind.ParameterMode.TheVariants.{In}
use Rattle.rv_shape.specs.declared.kind.Parameter.{Parameter}
use Rattle.rv_shape.specs.declared.kind.Barrier.TheVariants as Barriers
use Rattle.rv_shape.specs.declared.kind.Kind.{Kind}
use Rattle.rv_shape.specs.declared.kind.Kind.TheVariants.{Function, Procedure, Entry as EntryKind, Handler}
use Rattle.rv_event.specs.declared.entry.Request.TheVariants.{Call, Complete, Settle, Resume, DelayUntil, Clock, Fire, Tick, Halt}
use Rattle.rv_event.specs.declared.entry.Exit.TheVariants.{Return}
use Rattle.rv_event.specs.declared.entry.Rule.TheVariants as Rules
use Rattle.rv_event.specs.declared.entry.Next.TheVariants.{Nothing, HandedTo, Dropped}
use Rattle.rv_event.specs.declared.entry.Answer.{Answer}
use Rattle.rv_event.specs.declared.entry.Answer.TheVariants.{Started, Queued, Refused, Done, Suspended, Delayed}
use Rattle.rv_event.specs.declared.entry.Answer.TheVariants.{Woken, Accepted, Misuse, Halted, Full, Busy, Waiting}
use Rattle.rv_event.specs.declared.entry.Answer.TheVariants.{Unattached, BadLine}
use Rattle.rv_shape.specs.declared.object.Object.{Object}
use Rattle.rv_shape.specs.declared.object.Object.TheVariants.{Protected, Suspension}
use Rattle.rv_shape.specs.Objects.{OperationShape, TaskShape}
use Rattle.rv_shape.specs.Shape.{Shape}
use Rattle.rv_history.specs.declared.command.Command.{Command}
use Rattle.rv_history.specs.declared.command.Command.TheVariants.{Ask, Load, Change}
use Rattle.rv_access.specs.declared.change.Change.TheVariants.{Whole, Append, Remove, Replace}
use Rattle.rv_history.specs.Limits.{limits_of, limits_with}
use Rattle.rv_history.specs.History.{History}
use Rattle.rv_history.specs.Legal.{empty}
use Rattle.rv_history.specs.Steps.{answers_to, history_after}

abbrev pub range : ℤ → ℤ → Range
range low high = record { of = Integer; low = low; high = high }

abbrev pub component : ℤ → ℤ → ℤ → Component
component low high start = record { range = range low high; start = start }

abbrev pub operation : List ℕ → Kind → List Parameter → OperationShape
operation name kind parameters = record { name = name; kind = kind; parameters = parameters; is_visible = true }

abbrev pub valve : Object
valve = Protected (record {
  name = codes "Valve";
  is_visible = true;
  ceiling = 20;
  components = component (pos 0) (pos 1) (pos 0) ∷ component (pos 0) (pos 100) (pos 0) ∷ [];
  operations = operation (codes "Get") (Function (range (pos 0) (pos 100))) []
      ∷ operation (codes "Set") Procedure (record { mode = In; range = range (pos 0) (pos 100) } ∷ [])
      ∷ operation (codes "Wait") (EntryKind (Barriers.Component 1)) [] ∷ [];
})

abbrev pub gauge : Object
gauge = Protected (record {
  name = codes "Gauge";
  is_visible = true;
  ceiling = 25;
  components = component (pos 0) (pos 100) (pos 7) ∷ [];
  operations = operation (codes "Read") (Function (range (pos 0) (pos 100))) []
      ∷ operation (codes "Bump") Procedure [] ∷ [];
})

abbrev pub ready : Object
ready = Suspension (record { name = codes "Ready"; is_visible = true })

abbrev pub plant : Shape
plant = record { name = codes "Plant"; tasks = []; objects = valve ∷ gauge ∷ ready ∷ [] }

abbrev pub task : List ℕ → ℕ → TaskShape
task name priority = record { name = name; priority = priority }

abbrev pub nav : Shape
nav = record {
  name = codes "Nav";
  tasks = task (codes "Pilot") 15 ∷ task (codes "Aux") 20 ∷ task (codes "High") 21 ∷ task (codes "Low") 10 ∷ [];
  objects = [];
}

-- actors, objects and operations by number
abbrev pub operator : ℕ
operator = 0

abbrev pub pilot : ℕ
pilot = 11

abbrev pub aux : ℕ
aux = 12

abbrev pub high_task : ℕ
high_task = 13

abbrev pub low_task : ℕ
low_task = 14

abbrev pub call : ℕ → ℕ → ℕ → List ℤ → Command
call actor object number values = Ask actor (Call object number values)

abbrev pub get : ℕ → Command
get actor = call actor 1 1 []

abbrev pub set : ℕ → ℤ → Command
set actor value = call actor 1 2 (value ∷ [])

abbrev pub wait : ℕ → Command
wait actor = call actor 1 3 []

abbrev pub read : ℕ → Command
read actor = call actor 2 1 []

abbrev pub bump : ℕ → Command
bump actor = call actor 2 2 []

abbrev pub ends : ℕ → List ℤ → List ℤ → Command
ends actor values results = Ask actor (Complete values (Return results))

abbrev pub resume : ℕ → Command
resume actor = Ask actor Resume

abbrev pub line : Bool → List ℕ → List ℕ → List ℕ → Words
line allow unit object name = record { allow = allow; unit = unit; object = object; operation = name; window = None }

abbrev pub star : List ℕ
star = codes "*"

abbrev pub allow_all : Words
allow_all = line true star star star

abbrev pub deny_wait : Words
deny_wait = line false (codes "Nav") (codes "Plant.Valve") (codes "Wait")

abbrev pub loads : List Command
loads = Load plant ∷ Load nav ∷ []

abbrev pub loaded : ℕ → List Words → History
loaded capacity list = history_after (empty (limits_of capacity)) (loads ++ Change (Whole list) ∷ [])

-- the commands, on these units under this list, get these answers
abbrev pub Gives : List Words → List Command → List Answer → Type 0
Gives list commands wanted = answers_to (loaded 4096 list) commands ≡ wanted

abbrev pub ok : Answer
ok = Accepted (pos 0)

abbrev pub NoList : Type 0
NoList = answers_to (history_after (empty (limits_of 4096)) loads) (get pilot
    ∷ []) ≡ Refused Rules.Grant 0 0 ∷ []

abbrev pub DeniedCallGrantedFunction : Type 0
DeniedCallGrantedFunction = Gives (allow_all ∷ line false (codes "Nav") (codes "Plant.Valve") (codes "Set") ∷ [])
    (set pilot (pos 5) ∷ get pilot ∷ ends pilot [] (pos 0 ∷ []) ∷ [])
    (Refused Rules.Grant 2 1 ∷ Started (pos 0 ∷ pos 0 ∷ []) ∷ Done Nothing ∷ [])

abbrev pub EqualAndHigherPriority : Type 0
EqualAndHigherPriority = Gives (allow_all ∷ []) (set aux (pos 5) ∷ set high_task (pos 5) ∷ []) (Started (pos 0
    ∷ pos 0 ∷ []) ∷ Refused Rules.Ceiling 0 1 ∷ [])

abbrev pub DenialBeforeCeiling : Type 0
DenialBeforeCeiling = Gives (line true (codes "Plant") star star ∷ []) (set high_task (pos 5)
    ∷ []) (Refused Rules.Grant 0 1 ∷ [])

abbrev pub SharingAndExclusion : Type 0
SharingAndExclusion = Gives (allow_all ∷ [])
    (get pilot ∷ get aux ∷ ends pilot [] (pos 0 ∷ []) ∷ set low_task (pos 9) ∷ ends aux [] (pos 0 ∷ [])
    ∷ set low_task (pos 9) ∷ [])
    (Started (pos 0 ∷ pos 0 ∷ []) ∷ Started (pos 0 ∷ pos 0 ∷ []) ∷ Done Nothing ∷ Busy ∷ Done Nothing
    ∷ Started (pos 0 ∷ pos 0 ∷ []) ∷ [])

abbrev pub FullQueue : Type 0
FullQueue = Gives (allow_all ∷ []) (wait pilot ∷ wait low_task ∷ []) (Queued ∷ Refused Rules.Queue 0 1 ∷ [])

abbrev pub SecondCallerWhileProcedureRuns : Type 0
SecondCallerWhileProcedureRuns = Gives (allow_all ∷ [])
    (wait pilot ∷ set aux (pos 1) ∷ wait low_task ∷ ends aux (pos 1 ∷ pos 1 ∷ []) [] ∷ resume pilot
    ∷ ends pilot (pos 0 ∷ pos 1 ∷ []) [] ∷ [])
    (Queued ∷ Started (pos 0 ∷ pos 0 ∷ []) ∷ Busy ∷ Done (HandedTo pilot) ∷ Woken (Some (pos 1 ∷ pos 1 ∷ []))
    ∷ Done Nothing ∷ [])

abbrev pub GrantTakenAwayWhileQueued : Type 0
GrantTakenAwayWhileQueued = Gives (allow_all ∷ [])
    (wait pilot ∷ set aux (pos 1) ∷ Change (Append deny_wait) ∷ ends aux (pos 1 ∷ pos 1 ∷ []) [] ∷ get low_task
    ∷ resume pilot ∷ [])
    (Queued ∷ Started (pos 0 ∷ pos 0 ∷ []) ∷ ok ∷ Done (Dropped pilot 2) ∷ Started (pos 1 ∷ pos 1 ∷ [])
    ∷ Refused Rules.Grant 2 2 ∷ [])

abbrev pub GrantTakenAwayAfterHandOver : Type 0
GrantTakenAwayAfterHandOver = Gives (allow_all ∷ [])
    (wait pilot ∷ set aux (pos 1) ∷ wait low_task ∷ ends aux (pos 1 ∷ pos 1 ∷ []) [] ∷ Change (Append deny_wait)
    ∷ resume pilot ∷ ends pilot (pos 0 ∷ pos 1 ∷ []) [] ∷ [])
    (Queued ∷ Started (pos 0 ∷ pos 0 ∷ []) ∷ Busy ∷ Done (HandedTo pilot) ∷ ok ∷ Woken (Some (pos 1 ∷ pos 1 ∷ []))
    ∷ Done Nothing ∷ [])

abbrev pub EntryCallInsideAction : Type 0
EntryCallInsideAction = Gives (allow_all ∷ [])
    (set pilot (pos 1) ∷ ends pilot (pos 1 ∷ pos 1 ∷ []) [] ∷ bump pilot ∷ wait pilot ∷ [])
    (Started (pos 0 ∷ pos 0 ∷ []) ∷ Done Nothing ∷ Started (pos 7 ∷ []) ∷ Refused Rules.Blocking 0 1 ∷ [])

abbrev pub SubjectOfNestedCall : Type 0
SubjectOfNestedCall = Gives (line true (codes "Nav") star star ∷ []) (get pilot ∷ read pilot ∷ []) (Started (pos 0
    ∷ pos 0 ∷ []) ∷ Refused Rules.Grant 0 1 ∷ [])

abbrev pub FullAndHalted : Type 0
FullAndHalted = answers_to (loaded 16 (allow_all ∷ []))
    (wait low_task ∷ set aux (pos 1) ∷ Ask operator (Tick (pos 1)) ∷ Ask operator (Tick (pos 1)) ∷ read aux
    ∷ Ask operator Halt ∷ ends aux (pos 1 ∷ pos 1 ∷ []) [] ∷ resume low_task ∷ [])
    ≡ Queued ∷ Started (pos 0 ∷ pos 0 ∷ []) ∷ ok ∷ ok ∷ Full ∷ ok ∷ Done Nothing ∷ Halted ∷ []

abbrev pub latch : Object
latch = Protected (record {
  name = codes "Latch";
  is_visible = true;
  ceiling = 35;
  components = component (pos 0) (pos 1) (pos 0) ∷ [];
  operations = operation (codes "Trip") (Handler 5) [] ∷ operation (codes "Reset") (Handler 4) [] ∷ [];
})

abbrev pub device : Shape
device = record { name = codes "Dev"; tasks = []; objects = latch ∷ [] }

abbrev pub fire : ℕ → Command
fire line = Ask (line + 1) Fire

abbrev pub Interrupts : Type 0
Interrupts = answers_to (empty (limits_of 4096))
    (Load device ∷ Change (Whole (line true (codes "Interrupts") (codes "Dev.Latch") star ∷ [])) ∷ fire 5 ∷ fire 4
    ∷ ends 5 (pos 1 ∷ []) [] ∷ fire 6 ∷ Change (Append (line false (codes "Interrupts") star (codes "Reset"))) ∷ fire 4 ∷ [])
    ≡ ok ∷ ok ∷ Refused Rules.Ceiling 0 1 ∷ Started (pos 0 ∷ []) ∷ Done Nothing ∷ Unattached ∷ ok
    ∷ Refused Rules.Grant 2 2 ∷ []

abbrev pub set_true : ℕ → Command
set_true actor = call actor 3 1 []

abbrev pub current_state : ℕ → Command
current_state actor = call actor 3 3 []

abbrev pub suspend : ℕ → Command
suspend actor = call actor 3 4 []

abbrev pub SuspendedAndReleased : Type 0
SuspendedAndReleased = Gives (allow_all ∷ [])
    (suspend pilot ∷ suspend aux ∷ set_true aux ∷ resume pilot ∷ set_true aux ∷ suspend pilot ∷ current_state pilot ∷ [])
    (Suspended ∷ Refused Rules.Waiter 0 1 ∷ ok ∷ Woken None ∷ ok ∷ ok ∷ ok ∷ [])

abbrev pub ListEdits : Type 0
ListEdits = Gives (allow_all ∷ line false (codes "Nav") star star ∷ [])
    (Change (Remove 3) ∷ Change (Remove 2) ∷ Change (Replace 1 (line false star star star)) ∷ get pilot ∷ [])
    (BadLine ∷ ok ∷ ok ∷ Refused Rules.Grant 1 3 ∷ [])

abbrev pub Delay : Type 0
Delay = Gives (allow_all ∷ [])
    (Ask pilot (DelayUntil (pos 5)) ∷ resume pilot ∷ Ask operator (Tick (pos 5)) ∷ resume pilot
    ∷ Ask pilot (DelayUntil (pos 5)) ∷ Ask pilot Clock ∷ [])
    (Delayed ∷ Waiting ∷ ok ∷ Woken None ∷ ok ∷ Accepted (pos 5) ∷ [])

abbrev pub settle : ℕ → Command
settle actor = Ask actor Settle

-- the commands, on a host whose queues have room for two, get these answers
abbrev pub GivesWithTwo : List Command → List Answer → Type 0
GivesWithTwo commands wanted =
    answers_to (history_after (empty (limits_with 4096 2)) (loads ++ Change (Whole (allow_all ∷ [])) ∷ [])) commands ≡ wanted

abbrev pub FirstDroppedSecondHandedOver : Type 0
FirstDroppedSecondHandedOver = GivesWithTwo
    (wait pilot ∷ wait low_task ∷ wait aux ∷ set aux (pos 1) ∷ Change (Append deny_wait)
    ∷ ends aux (pos 1 ∷ pos 1 ∷ []) [] ∷ get aux ∷ resume pilot ∷ get pilot ∷ Change (Remove 2) ∷ settle aux
    ∷ resume low_task ∷ ends low_task (pos 0 ∷ pos 1 ∷ []) [] ∷ [])
    (Queued ∷ Queued ∷ Refused Rules.Queue 0 1 ∷ Started (pos 0 ∷ pos 0 ∷ []) ∷ ok ∷ Done (Dropped pilot 2) ∷ Misuse
    ∷ Refused Rules.Grant 2 2 ∷ Busy ∷ ok ∷ Done (HandedTo low_task) ∷ Woken (Some (pos 1 ∷ pos 1 ∷ [])) ∷ Done Nothing
    ∷ [])

abbrev pub SettledAfterTheHalt : Type 0
SettledAfterTheHalt = GivesWithTwo
    (wait pilot ∷ wait low_task ∷ set aux (pos 1) ∷ Change (Append deny_wait) ∷ ends aux (pos 1 ∷ pos 1 ∷ []) []
    ∷ Ask operator Halt ∷ settle aux ∷ settle aux ∷ resume low_task ∷ [])
    (Queued ∷ Queued ∷ Started (pos 0 ∷ pos 0 ∷ []) ∷ ok ∷ Done (Dropped pilot 2) ∷ ok ∷ Done Nothing ∷ Misuse ∷ Halted
    ∷ [])
