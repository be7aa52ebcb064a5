-- How far a run has come: its operator and threads, what it wrote, and what its input still gives. (own)
use Rattle.std.specs.Prelude.{◌≡◌, ℕ, List, Result, Ok, Err}
use Rattle.rv_fault.specs.declared.failure.Failure.{Failure}
use Rattle.rv_fault.specs.Written.{IsNoFault}
use Rattle.rv_input.specs.Coming.{IfTold, Reading, coming, most_before}
use Rattle.rv_staff.specs.Saying.{Known, Says}
use Rattle.rv_staff.specs.Staffs.{Staffed}
use Rattle.rv_run.specs.declared.command.Goes.{Goes}
use Rattle.rv_run.specs.declared.command.Goes.TheVariants.{On}

-- what was written and what a reader has left are told where writer and reader tell them
pub record Stage : Type 0 where
  pub staff : Staffed
  pub written : Known
  pub input : Reading
  pub left : Known

abbrev pub stage : Staffed → Known → Reading → Known → Stage
stage staff written input left = record { staff = staff; written = written; input = input; left = left }

-- how a command ended: whether the run goes on, or why it fails
abbrev pub Outcome : Type 0
Outcome = Result Goes Failure

-- the run goes on, unless memory or the system failed it
abbrev pub GoesOn : Outcome → Type 0
GoesOn (Ok goes) = goes ≡ On
GoesOn (Err failure) = IsNoFault failure

-- memory or the system failed
abbrev pub Fails : {X : Type 0} → Result X Failure → Type 0
Fails (Ok x) = ⊥
Fails (Err failure) = IsNoFault failure

-- the run goes on exactly where writing succeeded
abbrev pub IsSaid : {X E : Type 0} → Result X E → Outcome → Type 0
IsSaid (Ok x) result = result ≡ Ok On
IsSaid (Err error) result = Fails result

-- a text is said, and the run goes on; or a prefix of it, and writing fails
abbrev pub SaysOn : Known → Known → List ℕ → Outcome → Type 0
SaysOn old new text result = Says old new text result × GoesOn result

-- what comes of the input: a fact on what came before and what still comes
abbrev pub Comes : Stage → Stage → (List ℕ → List ℕ → Type 0) → Type 0
Comes s t fact = IfTold (coming most_before s.input s.left) (coming most_before t.input t.left) fact

-- nothing is asked of the host or written; more may have been read
pub record OnlyReads (s t : Stage) : Type 0 where
  pub staff : t.staff ≡ s.staff
  pub written : t.written ≡ s.written

-- nothing is read
pub record ReadsNothing (s t : Stage) : Type 0 where
  pub input : t.input ≡ s.input
  pub left : t.left ≡ s.left
