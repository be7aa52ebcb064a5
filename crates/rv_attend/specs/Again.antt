-- Where a run lasts, a command of the operator for which there is no room is asked again behind an archive. (own)
use Rattle.std.specs.Prelude.{◌≡◌, ◌⊎◌, ℕ, Bool, true, List, [], codes, Option, Some, None, IfOk, Result, Ok}
use Rattle.rv_port.specs.Traces.{Passing}
use Rattle.rv_run.specs.Commanding.{AdmitsAll, Commands}
use Rattle.rv_run.specs.ServingLines.{LineComes}
use Rattle.rv_run.specs.Staging.{Outcome, Stage}
use Rattle.rv_shell.specs.Orders.{order_of}
use Rattle.rv_shell.specs.Serving.{Serves}
use Rattle.rv_shell.specs.declared.order.Order.{Order}
use Rattle.rv_shell.specs.declared.order.Order.TheVariants as Orders
use Rattle.rv_shell.specs.declared.shell.LineFault.{LineFault}
use Rattle.rv_shell.specs.declared.shell.Next.{Next}
use Rattle.rv_shell.specs.declared.shell.Next.TheVariants as Nexts
use Rattle.rv_text.specs.Words.{words}
use Rattle.rv_attend.specs.Chores.{Chores, ChoresIn}

-- the answer where there is no room, as it is said
abbrev pub full_line : List ℕ
full_line = codes "full\n"

-- a change of the list, or ticks
abbrev pub IsRequest : Order → Type 0
IsRequest (Orders.Change change) = Unit {0}
IsRequest (Orders.Tick ticks) = Unit {0}
IsRequest order = ⊥

-- a command line asks one of these
pub record TakesRoom (line : List ℕ) : Type 0 where
  pub order : Order
  pub read : order_of (words line) ≡ Some order
  pub request : IsRequest order

-- A command line is carried out, and this would be said of it, of which nobody is told.
pub record Asks (v w : Passing) (line text : List ℕ) (next : Result Next LineFault) : Type 0 where
  pub serves : Serves (Some []) (Some text) v w (words line) next

-- There is no room for a command, and then entries are given up that the file has, if there are enough.
pub record InVain (v w : Passing) (line : List ℕ) : Type 0 where
  pub asked : Passing
  pub asks : Asks v asked line full_line (Ok Nexts.Go)
  pub gives_up : ChoresIn true asked w

-- a stage at which the operator is at this
abbrev pub with_control : Stage → Passing → Stage
with_control s v = record s { staff = record s.staff { control = v } }

-- A command that is no load is carried out, at most once in vain before.
pub record AskedAgain (s t : Stage) (line : List ℕ) (outcome : Outcome) : Type 0 where
  pub again : Passing
  pub before : (again ≡ s.staff.control) ⊎ InVain s.staff.control again line
  pub commands : Commands AdmitsAll (with_control s again) t line outcome
  pub goes : IfOk commands.next (λ next. next ≡ Nexts.Go)

-- With a line, where nobody is at a console: in a run that lasts a command that takes room is carried out so, behind chores for the notes on
-- it; else only these are done, and nothing is said.
abbrev pub HeedsPlainly : (lasting : Bool) → Stage → Stage → List ℕ → Option Outcome → Type 0
HeedsPlainly lasting s t line None = t.written ≡ s.written
HeedsPlainly lasting s t line (Some outcome) =
    (lasting ≡ true) × ((u : Passing) × Chores s.staff.control u × AskedAgain (with_control s u) t line outcome)

-- The next command of what came is carried out, behind chores for the notes on it, and once in vain before.
pub record ServesAgain (s t : Stage) (outcome : Outcome) : Type 0 where
  pub noted : Passing
  pub chores : Chores s.staff.control noted
  pub again : Passing
  pub comes : LineComes AdmitsAll (with_control s again) t outcome
  pub vain : InVain noted again comes.line
