-- What an act of the host behind the turn may do. (own)
use Rattle.std.specs.Prelude.{◌≡◌, ℕ, Bool, true, false, ◌==◌, ◌&&◌, map, if◌then◌else◌, List, [], ◌∷◌, ◌++◌, Option, Some, None, is_some, length}
use Rattle.rv_access.specs.Words.{Words}
use Rattle.rv_access.specs.declared.change.Change.{Change}
use Rattle.rv_shape.specs.Shape.{Shape}
use Rattle.rv_event.specs.Recorded.{recorded}
use Rattle.rv_event.specs.declared.entry.Request.{Request}
use Rattle.rv_event.specs.declared.entry.Answer.{Answer}
use Rattle.rv_event.specs.declared.entry.Answer.TheVariants as Answers
use Rattle.rv_event.specs.declared.entry.Recorded.{Recorded}
use Rattle.rv_history.specs.declared.limits.Limits.{Limits}
use Rattle.rv_history.specs.History.{History, force}
use Rattle.rv_history.specs.Due.{out}
use Rattle.rv_history.specs.Legal.{Legal, out_load}
use Rattle.rv_access.specs.Changes.{changed}
use Rattle.rv_history.specs.Steps.{MayLackMemory, due_change}
use Rattle.rv_host.specs.Pages.{marked_page, page}
use Rattle.rv_view.specs.Views.{shown}
use Rattle.std.specs.Arc.{arc_value}
use Rattle.rv_code.specs.Bodies as Code
use Rattle.rv_code.specs.BodyView.{unit_view}
use Rattle.rv_code.specs.declared.body.UnitBodies.{UnitBodies}
use Rattle.rv_ranged.specs.Ranged.{catalogue_ranged}
use Rattle.rv_fits.specs.Fits.{are_of, calls_fit, numbered_as}
use Rattle.rv_exec.specs.Bodies.{bodies_view, held, units_of}
use Rattle.rv_exec.specs.declared.bodies.Bodies.{Bodies}
use Rattle.rv_behind.specs.Events.{history_at, catalogue_of, bodies_at, units_at, called, no_operation}
use Rattle.rv_behind.specs.declared.event.Lent.{Lent}
use Rattle.rv_behind.specs.declared.event.Begun.{Begun}
use Rattle.rv_behind.specs.declared.event.Event.{Event}
use Rattle.rv_behind.specs.declared.event.Event.TheVariants.{Asks, Loads, Lists}
use Rattle.rv_behind.specs.declared.event.Ask.{Ask}
use Rattle.rv_behind.specs.declared.event.Ask.TheVariants as Wants
use Rattle.rv_behind.specs.declared.event.Reply.{Reply}
use Rattle.rv_behind.specs.declared.event.Reply.TheVariants as Gives

-- the history with the event of a recorded answer (own)
abbrev pub entered : List Event → ℕ → Request → Option Recorded → List Event
entered log actor request None = log
entered log actor request (Some word) = log ++ Asks actor request word ∷ []

-- a recorded answer adds its event, another adds none (own)
abbrev pub grown : List Event → ℕ → Request → Answer → List Event
grown log actor request answer = entered log actor request (recorded answer)

abbrev pub loaded : List Event → Shape → UnitBodies → Answer → List Event
loaded log shape unit answer = if is_some (recorded answer) then log ++ Loads shape (Some unit) ∷ [] else log

abbrev pub listed : List Event → Option (List Words) → List Event
listed log None = log
listed log (Some list) = log ++ Lists list ∷ []

abbrev pub changed_to : List Event → Option (List Words) → Answer → List Event
changed_to log list answer = if is_some (recorded answer) then listed log list else log

-- the operation whose body an answer to a request starts (9.5.1, C.3)
abbrev pub begun_by : List Shape → ℕ → Request → Answer → Begun
begun_by shapes actor request (Answers.Started values) = called shapes actor request
begun_by shapes actor request answer = no_operation

-- the answer to a request, and the history after it (own)
abbrev pub Stepped : Limits → List Event → ℕ → Request → Answer → List Event → Type 0
Stepped c log a q r after = (r ≡ out (history_at c log) a q) × (after ≡ grown log a q r)

-- the answer to a load (own)
abbrev pub Loaded : Limits → List Event → Shape → UnitBodies → Answer → List Event → Type 0
Loaded c log shape unit r after = MayLackMemory (out_load (history_at c log) shape) r × (after ≡ loaded log shape unit r)

-- the same, where it can't be accepted for want of memory (own)
abbrev pub Unloaded : Limits → List Event → Shape → Answer → List Event → Type 0
Unloaded c log shape r after =
    MayLackMemory (out_load (history_at c log) shape) r × (recorded r ≡ None) × (after ≡ log)

-- a load of a unit whose bodies fit; one whose bodies do not is answered as one that there is no memory for (own)
abbrev pub LoadedIf : Bool → Limits → List Event → Shape → UnitBodies → Answer → List Event → Type 0
LoadedIf true c log shape unit r after = Loaded c log shape unit r after
LoadedIf false c log shape unit r after = Unloaded c log shape r after

-- a unit's bodies are numbered as its shape is, their calls fit the units of this history, with its own, and their values lie in
-- their ranges (own)
abbrev pub fits_behind : List Event → Shape → UnitBodies → Bool
fits_behind log shape unit = are_of (catalogue_of log) shape (unit_view unit)

-- each unit has bodies, which are numbered as its shape is: by the catalogue's numbers each has its own (own)
abbrev pub all_numbered : List Shape → List Code.UnitBodies → Bool
all_numbered [] [] = true
all_numbered (shape ∷ shapes) (unit ∷ units) = numbered_as shape unit && all_numbered shapes units
all_numbered shapes units = false

-- Each unit of the host has bodies of its own, the calls of all bodies fit the units, and what they give and keep lies in its
-- range. (own)
pub record AreBrought (h : History) (bodies : Bodies) : Type 0 where
  pub count : length (units_of bodies) ≡ length h.shapes
  pub numbered : all_numbered h.shapes (map unit_view (units_of bodies)) ≡ true
  pub fit : calls_fit h.shapes (bodies_view bodies) ≡ true
  pub ranged : catalogue_ranged h.shapes (bodies_view bodies) ≡ true

-- the answer to a list change (own)
abbrev pub Changed : Limits → List Event → Change → Answer → List Event → Type 0
Changed c log change r after =
    MayLackMemory (due_change (history_at c log) change) r
    × (after ≡ changed_to log (changed (force (history_at c log)) change) r)

-- what only the operator may ask: a load, or a change of the list (own)
abbrev pub changes : Ask → Bool
changes (Wants.Step q) = false
changes (Wants.Read from) = false
changes (Wants.Entries from) = false
changes Wants.View = false
changes Wants.Bodies = false
changes ask = true

-- to another it is Misuse, and changes nothing (own)
abbrev pub IfOperator : Bool → Type 0 → Answer → List Event → List Event → Type 0
IfOperator true does r log after = does
IfOperator false does r log after = (r ≡ Answers.Misuse) × (after ≡ log)

-- in this history each unit has bodies of its own, the calls of all bodies fit the units, and what they give and keep lies in its
-- range (own)
pub record BodiesFit (log : List Event) : Type 0 where
  pub numbered : all_numbered (catalogue_of log) (map unit_view (units_at log)) ≡ true
  pub calls : calls_fit (catalogue_of log) (bodies_at log) ≡ true
  pub ranges : catalogue_ranged (catalogue_of log) (bodies_at log) ≡ true

-- The bodies that a port is lent are those of all units loaded then, whose calls fit these units, and whose values lie in their
-- ranges; none where there were too many holders of them. (own)
abbrev pub IsLent : List Event → Option Code.UnitBodies → Type 0
IsLent log None = Unit {0}
IsLent log (Some bodies) = (bodies ≡ bodies_at log) × BodiesFit log

-- the bodies that an answer brings, if it does (own)
abbrev pub lent_view : Option Lent → Option Code.UnitBodies
lent_view None = None
lent_view (Some lent) = Some (bodies_view (arc_value lent.bodies).bodies)

-- what is due to an ask, on a legal history (own)
abbrev pub Due : Limits → List Event → ℕ → Ask → Reply → List Event → Type 0
Due c log a (Wants.Step q) (Gives.Answered r b lent) after =
    Stepped c log a q r after × (b ≡ begun_by (catalogue_of log) a q r) × IsLent log (lent_view lent)
Due c log a (Wants.Load shape unit) (Gives.Answered r b lent) after =
    IfOperator (a == 0) (LoadedIf (fits_behind log shape (held unit)) c log shape (held unit) r after) r log after
Due c log a (Wants.LoadWithoutMemory shape) (Gives.Answered r b lent) after =
    IfOperator (a == 0) (Unloaded c log shape r after) r log after
Due c log a (Wants.Change change) (Gives.Answered r b lent) after =
    IfOperator (a == 0) (Changed c log change r after) r log after
Due c log a (Wants.Read from) (Gives.Read p) after = (p ≡ page (history_at c log) from) × (after ≡ log)
Due c log a (Wants.Read from) Gives.Unread after = after ≡ log
Due c log a (Wants.Entries from) (Gives.Entries marked) after = (marked.items ≡ marked_page (history_at c log) from) × (after ≡ log)
Due c log a (Wants.Entries from) Gives.Unread after = after ≡ log
Due c log a Wants.View (Gives.Viewed view) after = (view ≡ shown (history_at c log)) × (after ≡ log)
Due c log a Wants.View Gives.Unread after = after ≡ log
Due c log a Wants.Bodies (Gives.Bodies lent) after = IsLent log (lent_view lent) × (after ≡ log)
Due c log a ask reply after = ⊥

-- an act of the host behind the turn, on a legal history, in which all bodies fit (own)
abbrev pub Does : Limits → List Event → ℕ → Ask → Reply → List Event → Type 0
Does limits log a ask reply after = Legal (history_at limits log) × BodiesFit log × Due limits log a ask reply after

-- behind it they fit still (own)
abbrev pub BodiesStayFit : Type 0
BodiesStayFit =
    (limits : Limits) (log : List Event) (a : ℕ) (ask : Ask) (reply : Reply) (after : List Event)
    → Does limits log a ask reply after → BodiesFit after
