-- What lasts in an attended run, whatever is done. (own)
use Rattle.std.specs.Prelude.{◌≡◌, ◌⊎◌, ℕ, ◌-◌, List, Option, Result}
use Rattle.rv_feed.specs.Hearing.{IsStopped}
use Rattle.rv_feed.specs.declared.piece.Piece.{Piece}
use Rattle.rv_follow.specs.Following.{Later}
use Rattle.rv_input.specs.Coming.{Reading}
use Rattle.rv_keep.specs.Keeping.{Known}
use Rattle.rv_staff.specs.Staffs.{Staffed}
use Rattle.rv_attend.specs.Chores.{ChoresIn}
use Rattle.rv_attend.specs.Going.{CommandComes, IsLow, Terms, terms}
use Rattle.rv_attend.specs.declared.follower.Follower.{Follower}
use Rattle.rv_attend.specs.KeepingRuns.{KeepsOn}
use Rattle.rv_run.specs.declared.command.Goes.{Goes}
use Rattle.rv_run.specs.declared.command.Goes.TheVariants.{On, Out}
use Rattle.rv_run.specs.declared.outputs.KeptFailure.{KeptFailure}

-- what an attended run is at: its operator and threads, what its file has, the entry that is written there next, and what is asked of it
pub record State : Type 0 where
  pub staff : Staffed
  pub file : Known
  pub next : ℕ
  pub terms : Terms

abbrev pub at : Staffed → Known → ℕ → Terms → State
at staff file next terms = record { staff = staff; file = file; next = next; terms = terms }

-- the same of an operator and threads beside a follower, by what its file has
module _ {T F : Type 0} where
  abbrev pub standing : (F → Known) → Staffed → Follower T F → State
  standing contents staff follower = at staff (contents follower.keeper.file) follower.keeper.next (terms follower.asked follower.room.capacity)

-- What stands in the file goes on with the journal, what the operator has seen grows, and the same is asked of the run.
abbrev pub Lasts : {X : Type 0} → State → State → Result X KeptFailure → Type 0
Lasts s t result =
    KeepsOn s.file s.staff.control s.next t.file t.staff.control t.next result × Later s.staff.control t.staff.control × (t.terms ≡ s.terms)

-- The same, and no more is asked of the host than chores: no thread comes or goes.
abbrev pub Tends : {X : Type 0} → State → State → Result X KeptFailure → Type 0
Tends s t result =
    KeepsOn s.file s.staff.control s.next t.file t.staff.control t.next result × ChoresIn s.terms.asked.lasting s.staff.control t.staff.control
    × (t.staff.crew ≡ s.staff.crew) × (t.terms ≡ s.terms)

-- the entries that were written leave less room than the run is to have, whatever it was at before
abbrev pub Halts : State → State → Type 0
Halts s t = IsLow t.terms (t.next - 1)

-- The next command is served where it has come, or no more comes. The run ends where a halt is due, or it was ended from outside.
abbrev pub GoesFor : State → State → Reading → List Piece → Option (List Piece) → Goes → Type 0
GoesFor s t input heard told On = CommandComes heard input
GoesFor s t input heard told Out = Halts s t ⊎ IsStopped told
