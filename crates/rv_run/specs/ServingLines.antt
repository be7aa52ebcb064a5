-- Commands are served one after another, each answered before the next is read. (own)
use Rattle.std.specs.Prelude.{◌≡◌, ◌⊎◌, ℕ, ◌<◌, zero, suc, List, Some, None, Result, Ok, Err}
use Rattle.std.specs.Io.KnownBytes.{Keeps}
use Rattle.rv_fault.specs.declared.failure.Failure.{Failure}
use Rattle.rv_input.specs.Coming.{GivesLine, Reading, Shortens}
use Rattle.rv_staff.specs.Saying.{Known}
use Rattle.rv_run.specs.declared.command.Goes.TheVariants.{On, Out}
use Rattle.rv_run.specs.Commanding.{Admission, AdmitsAll, Commands, ReadFails}
use Rattle.rv_run.specs.Staging.{Comes, Fails, OnlyReads, Outcome, ReadsNothing, Stage}

-- how many commands a run serves
abbrev pub most_commands : ℕ
most_commands = 100000

-- the next line comes, and is carried out
pub record LineComes (admits : Admission) (s t : Stage) (result : Outcome) : Type 0 where
  pub line : List ℕ
  pub read : Reading
  pub left : Known
  pub comes : Comes s (record s { input = read; left = left }) (GivesLine read.given (Some line))
  pub shorter : Shortens s.left left
  pub commands : Commands admits (record s { input = read; left = left }) t line result

-- no line comes any more
pub record NoLineComes (s t : Stage) (result : Outcome) : Type 0 where
  pub comes : Comes s t (GivesLine t.input.given None)
  pub nothing : OnlyReads s t
  pub ends : result ≡ Ok Out

abbrev pub ServesNext : Admission → Stage → Stage → Outcome → Type 0
ServesNext admits s t result = LineComes admits s t result ⊎ NoLineComes s t result ⊎ ReadFails s t result

-- what was written is handed on, which adds nothing to it
pub record Flushes (s t : Stage) : Type 0 where
  pub staff : t.staff ≡ s.staff
  pub unread : ReadsNothing s t
  pub kept : Keeps s.written t.written

-- what can't be handed on ends the run; else the next command is served
abbrev pub ServesOne : Stage → Stage → Outcome → Type 0
ServesOne s t result = (Flushes s t × Fails result) ⊎ ((u : Stage) × Flushes s u × ServesNext AdmitsAll u t result)

-- the first so many commands, behind each of which the run goes on
abbrev pub ServesUpTo : ℕ → Stage → Stage → Type 0
ServesUpTo zero s t = t ≡ s
ServesUpTo (suc count) s t = (u : Stage) × ServesUpTo count s u × ServesOne u t (Ok On)

-- commands are served to the last that a run serves
pub record ServesMost (s t : Stage) : Type 0 where
  pub count : ℕ
  pub all : count ≡ most_commands
  pub served : ServesUpTo count s t

-- so many commands are served, and then one behind which the run doesn't go on
pub record StopsBehind (s t : Stage) (result : Outcome) : Type 0 where
  pub count : ℕ
  pub within : count < most_commands
  pub before : Stage
  pub served : ServesUpTo count s before
  pub last : ServesOne before t result

-- commands are served one after another, until the run goes on no more
abbrev pub ServesAll : Stage → Stage → Result (Unit {0}) Failure → Type 0
ServesAll s t (Ok x) = ServesMost s t ⊎ StopsBehind s t (Ok Out)
ServesAll s t (Err failure) = StopsBehind s t (Err failure)
