-- A unit that a list denies everything, and what comes of its calls (own).
use Rattle.std.specs.Prelude.{◌≡◌, ◌⊎◌, ℕ, ℤ, Bool, true, false, ◌&&◌, List, ◌∷◌, ◌++◌, codes, None}
use Rattle.std.specs.List.{list_any}
use Rattle.rv_access.specs.Changes.{appended}
use Rattle.rv_access.specs.Lines.{fits}
use Rattle.rv_access.specs.Words.{Words}
use Rattle.rv_shape.specs.Catalogue.{UnitTask, Task, who}
use Rattle.rv_event.specs.Past.{innermost}
use Rattle.rv_event.specs.declared.entry.Entry.{Entry}
use Rattle.rv_event.specs.declared.entry.Entry.TheVariants.{Asked}
use Rattle.rv_event.specs.declared.entry.Recorded.{Recorded}
use Rattle.rv_event.specs.declared.entry.Recorded.TheVariants.{Refused}
use Rattle.rv_event.specs.declared.entry.Request.{Request}
use Rattle.rv_event.specs.declared.entry.Request.TheVariants.{Call}
use Rattle.rv_event.specs.declared.entry.Rule.TheVariants.{Grant}
use Rattle.rv_history.specs.Due.{out}
use Rattle.rv_history.specs.History.{History, force, version}
use Rattle.rv_history.specs.Legal.{Legal, after}
use Rattle.rv_history.specs.Subject.{subject}

-- Lists

-- the line `deny UNIT * *`
abbrev pub denial : List ℕ → Words
denial unit = record { allow = false; unit = unit; object = codes "*"; operation = codes "*"; window = None }

-- A line denies a unit everything at each tick: its words are the unit, or `*`, and twice `*`.
pub record IsDenial (unit : List ℕ) (line : Words) : Type 0 where
  pub denies : line.allow ≡ false
  pub names : fits line.unit unit ≡ true
  pub object : line.object ≡ codes "*"
  pub operation : line.operation ≡ codes "*"
  pub always : line.window ≡ None

-- a line that may grant a call to a unit
abbrev pub may_grant : List ℕ → Words → Bool
may_grant unit line = line.allow && fits line.unit unit

-- A list denies a unit everything: no line behind such a line may grant it a call.
pub record DeniesAll (list : List Words) (unit : List ℕ) : Type 0 where
  pub before : List Words
  pub line : Words
  pub behind : List Words
  pub split : list ≡ before ++ line ∷ behind
  pub is : IsDenial unit line
  pub no_grant : list_any (may_grant unit) behind ≡ false

abbrev pub LastDenialStands : Type 0
LastDenialStands = (list : List Words) (unit : List ℕ) → DeniesAll (appended list (denial unit)) unit

-- Calls

-- what a request of the actor leads to, when it is answered as is due
abbrev pub due_after : History → ℕ → Request → History
due_after h actor request = after h actor request (out h actor request)

-- the entry of a refusal by this line of the list in force
abbrev pub refusal : History → ℕ → Request → ℕ → Entry
refusal h actor request line = Asked actor request (Refused Grant line (version h))

-- nothing is added, or one entry, which is a refusal by the list
abbrev pub AddsItsRefusal : History → ℕ → Request → Type 0
AddsItsRefusal h actor request =
    (due_after h actor request ≡ h)
    ⊎ ((line : ℕ) × (due_after h actor request ≡ record h { past = refusal h actor request line ∷ h.past }))

abbrev pub CallsAreRefused : Type 0
CallsAreRefused =
    (h : History) (actor object operation : ℕ) (values : List ℤ) → DeniesAll (force h) (subject h actor)
    → AddsItsRefusal h actor (Call object operation values)

-- the same of a task that is in no body: the list denies its own unit everything
abbrev pub TasksAreRefused : Type 0
TasksAreRefused =
    (h : History) (actor object operation : ℕ) (values : List ℤ) (task : UnitTask) → who h.shapes actor ≡ Task task
    → innermost h.shapes actor h.past ≡ None → DeniesAll (force h) task.unit
    → AddsItsRefusal h actor (Call object operation values)

-- A legal history whose newest entry is a call of a subject that the list denied everything, when it was made.
pub record DeniedCall (h before : History) (actor : ℕ) (request : Request) (word : Recorded) : Type 0 where
  pub legal : Legal h
  pub newest : h ≡ record before { past = Asked actor request word ∷ before.past }
  pub denied : DeniesAll (force before) (subject before actor)

abbrev pub RecordedCallsAreRefused : Type 0
RecordedCallsAreRefused =
    (h before : History) (actor object operation : ℕ) (values : List ℤ) (word : Recorded)
    → DeniedCall h before actor (Call object operation values) word
    → (line : ℕ) × (word ≡ Refused Grant line (version before))
