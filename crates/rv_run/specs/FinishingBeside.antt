-- The start and the end of a run, with what is done beside its commands. (own)
use Rattle.std.specs.Prelude.{◌≡◌, ◌⊎◌, ℕ, Bool, true, false, length, Ok, Err}
use Rattle.rv_crew.specs.declared.crew.Closed.{Closed}
use Rattle.rv_fault.specs.declared.failure.Failure.TheVariants.{Memory}
use Rattle.rv_staff.specs.Ending as ending
use Rattle.rv_staff.specs.Giving.{Starts}
use Rattle.rv_staff.specs.Saying.{Known, Says}
use Rattle.rv_run.specs.declared.outputs.KeptFailure.TheVariants.{Run}
use Rattle.rv_run.specs.Beside.{Beside, Ended, IsOfRun, Moment}
use Rattle.rv_run.specs.Finishing.{FailsByMeans, Served, TellsLost, entries_line}
use Rattle.rv_run.specs.ServingBeside.{ServesAllWith}
use Rattle.rv_run.specs.Staging.{ReadsNothing, Stage}

-- commands are served, if some follow
abbrev pub ServesIfWith : {C : Type 0} → Beside C → Bool → Moment C → Moment C → Ended → Type 0
ServesIfWith does true m n result = ServesAllWith does m n result
ServesIfWith does false m n result = (n ≡ m) × (result ≡ Ok tt)

-- behind the first threads, unless what is said of them can't be written
abbrev pub GoesOnByWith : {C : Type 0} → Beside C → Bool → Moment C → Moment C → Served → Ended → Type 0
GoesOnByWith does runs m n (Ok x) result = ServesIfWith does runs m n result
GoesOnByWith does runs m n (Err failure) result = (n ≡ m) × (result ≡ Err (Run failure))

-- the first threads are started, and commands are served
pub record GoesWith {C : Type 0} (does : Beside C) (runs : Bool) (m n : Moment C) (result : Ended) : Type 0 where
  pub between : Stage
  pub started : Served
  pub starts : Starts m.stage.staff between.staff m.stage.written between.written started
  pub unread : ReadsNothing m.stage between
  pub means : FailsByMeans started
  pub serves : GoesOnByWith does runs (record m { stage = between }) n started result

-- where all went well, how long the journal is is said
abbrev pub CountsWith : Known → Known → ℕ → Ended → Ended → Type 0
CountsWith old new entries (Ok x) result = (said : Served) × Says old new (entries_line entries) said × FailsByMeans said × IsOfRun said result
CountsWith old new entries (Err failure) result = (new ≡ old) × (result ≡ Err failure)

-- of a host that was closed what is left to do is done, and what it leaves is said
pub record TakesLeave {C : Type 0} (does : Beside C) (closed : Closed) (chores : C) (old errors : Known) (chores' : C) (new errors' : Known) (served result : Ended) : Type 0 where
  pub told : Known
  pub kept : Ended
  pub closes : does.closes chores errors closed served chores' told kept
  pub lost : TellsLost told errors' closed.host.shapes closed.lost.items
  pub counted : CountsWith old new (length closed.host.past) kept result

-- the host is halted, its threads are joined, and it is closed
pub record LeavesWith {C : Type 0} (does : Beside C) (m : Moment C) (chores : C) (written errors : Known) (served result : Ended) : Type 0 where
  pub closed : Closed
  pub hurried : Bool
  pub hurries : does.hurries m.chores hurried
  pub ended : ending.Ended hurried m.stage.staff closed
  pub takes : TakesLeave does closed m.chores m.stage.written m.errors chores written errors served result

-- where memory was refused for that, nothing is said
abbrev pub UnclosedWith : Ended → Ended → Type 0
UnclosedWith (Ok x) result = result ≡ Err (Run Memory)
UnclosedWith (Err failure) result = result ≡ Err failure

pub record LeavesOpenWith {C : Type 0} (m : Moment C) (chores : C) (written errors : Known) (served result : Ended) : Type 0 where
  pub idle : chores ≡ m.chores
  pub silent : written ≡ m.stage.written
  pub unheard : errors ≡ m.errors
  pub ends : UnclosedWith served result

abbrev pub FinishesWith : {C : Type 0} → Beside C → Moment C → C → Known → Known → Ended → Ended → Type 0
FinishesWith does m chores written errors served result =
    LeavesWith does m chores written errors served result ⊎ LeavesOpenWith m chores written errors served result

-- a session is started and served, and then ended
pub record PlaysWith {C : Type 0} (does : Beside C) (runs : Bool) (m : Moment C) (chores : C) (written errors : Known) (result : Ended) : Type 0 where
  pub last : Moment C
  pub served : Ended
  pub goes : GoesWith does runs m last served
  pub finishes : FinishesWith does last chores written errors served result
