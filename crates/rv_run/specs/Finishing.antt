-- The end of a run, and what is said of it. (own)
use Rattle.std.specs.Prelude.{◌≡◌, ◌⊎◌, ℕ, List, [], ◌∷◌, ◌++◌, codes, length, Bool, true, false, Result, Ok, Err}
use Rattle.std.specs.Fmt.{decimal}
use Rattle.rv_shape.specs.Shape.{Shape}
use Rattle.rv_crew.specs.declared.crew.Closed.{Closed}
use Rattle.rv_fault.specs.declared.failure.Failure.{Failure}
use Rattle.rv_fault.specs.declared.failure.Failure.TheVariants.{Memory}
use Rattle.rv_fault.specs.Written.{IsNoFault}
use Rattle.rv_staff.specs.Ending.{Ended}
use Rattle.rv_staff.specs.Giving.{Starts}
use Rattle.rv_staff.specs.Saying.{Known, Says, SaysLost}
use Rattle.rv_staff.specs.Staffs.{Staffed}
use Rattle.rv_run.specs.ServingLines.{ServesAll}
use Rattle.rv_run.specs.Staging.{ReadsNothing, Stage}

-- how serving ended
abbrev pub Served : Type 0
Served = Result (Unit {0}) Failure

-- if it failed, then by memory or the system
abbrev pub FailsByMeans : Served → Type 0
FailsByMeans (Ok x) = Unit {0}
FailsByMeans (Err failure) = IsNoFault failure

-- the last line of a run: how many entries its journal has
abbrev pub entries_line : ℕ → List ℕ
entries_line entries = codes "entries " ++ decimal entries ++ 10 ∷ []

-- where commands were served to their end, that is said
abbrev pub Counts : Known → Known → ℕ → Served → Served → Type 0
Counts old new entries (Ok x) result = Says old new (entries_line entries) result × FailsByMeans result
Counts old new entries (Err failure) result = (new ≡ old) × (result ≡ Err failure)

-- on standard error the actors are named whose ports were lost; whether it takes that isn't heard
abbrev pub TellsLost : Known → Known → List Shape → List ℕ → Type 0
TellsLost old new shapes lost = (heard : Result (Unit {0}) (Unit {0})) × SaysLost old new shapes lost heard

-- the host is halted, its threads are joined, it is closed, and what it leaves is said
pub record Leaves (staff : Staffed) (old new errors errors' : Known) (served result : Served) : Type 0 where
  pub closed : Closed
  pub ended : Ended false staff closed
  pub lost : TellsLost errors errors' closed.host.shapes closed.lost.items
  pub counted : Counts old new (length closed.host.past) served result

-- where memory was refused for that, nothing is said
abbrev pub Unclosed : Served → Served → Type 0
Unclosed (Ok x) result = result ≡ Err Memory
Unclosed (Err failure) result = result ≡ Err failure

pub record LeavesOpen (old new errors errors' : Known) (served result : Served) : Type 0 where
  pub silent : new ≡ old
  pub unheard : errors' ≡ errors
  pub ends : Unclosed served result

abbrev pub Finishes : Staffed → Known → Known → Known → Known → Served → Served → Type 0
Finishes staff old new errors errors' served result =
    Leaves staff old new errors errors' served result ⊎ LeavesOpen old new errors errors' served result

-- commands are served, if some follow
abbrev pub ServesIf : Bool → Stage → Stage → Served → Type 0
ServesIf true s t result = ServesAll s t result
ServesIf false s t result = (t ≡ s) × (result ≡ Ok tt)

-- behind the first threads, unless what is said of them can't be written
abbrev pub GoesOnBy : Bool → Stage → Stage → Served → Served → Type 0
GoesOnBy runs s t (Ok x) result = ServesIf runs s t result
GoesOnBy runs s t (Err failure) result = (t ≡ s) × (result ≡ Err failure)

-- the first threads are started, and commands are served
pub record Goes (runs : Bool) (s t : Stage) (result : Served) : Type 0 where
  pub between : Stage
  pub started : Served
  pub starts : Starts s.staff between.staff s.written between.written started
  pub unread : ReadsNothing s between
  pub means : FailsByMeans started
  pub serves : GoesOnBy runs between t started result

-- a session is started and served, and then ended
pub record Plays (runs : Bool) (s : Stage) (written errors errors' : Known) (result : Served) : Type 0 where
  pub last : Stage
  pub served : Served
  pub goes : Goes runs s last served
  pub finishes : Finishes last.staff last.written written errors errors' served result
