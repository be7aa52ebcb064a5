-- What the text of a task did with its port. (own)
use Rattle.std.specs.Prelude.{◌≡◌, ◌⊎◌, ◌<◌, ℕ, Bool, true, false, [], Option, Some, None}
use Rattle.rv_event.specs.declared.entry.Exit.{Exit}
use Rattle.rv_event.specs.declared.entry.Exit.TheVariants.{Stopped}
use Rattle.rv_code.specs.Bodies.{UnitBodies}
use Rattle.rv_exec.specs.Asking.{Along}
use Rattle.rv_exec.specs.Tasks.{task_run}
use Rattle.rv_turn.specs.Passes.{Acted, IsWorn}
use Rattle.rv_behind.specs.declared.event.Lent.{Lent}
use Rattle.rv_behind.specs.declared.event.Ask.TheVariants as Wants
use Rattle.rv_behind.specs.declared.event.Reply.TheVariants as Gives
use Rattle.rv_behind.specs.Acting.{Does, lent_view}
use Rattle.rv_behind.specs.Events.{by}
use Rattle.rv_port.specs.Bodies.{marked}
use Rattle.rv_port.specs.Calls.{StoppedAt, Quits}
use Rattle.rv_port.specs.Held.{held_by}
use Rattle.rv_port.specs.Traces.{Passing, Trace, Went}

-- In one act the port was lent the bodies of all units loaded in a history that begins with all that it had seen, and that
-- it has seen then; or none, where they couldn't be had. It asked nothing else. (own)
pub record Borrows (v : Passing) (bodies : Option UnitBodies) (w : Passing) : Type 0 where
  pub lent : Option Lent
  pub lent_is : bodies ≡ lent_view lent
  pub acted : Acted by Does v Wants.Bodies (Gives.Bodies lent) w

-- Of these bodies that of the actor's task asks this, with so many requests of its own, and ends so, by what bodies mean;
-- without them it asks nothing, and is stopped (9.2, 9.3).
abbrev pub TextRuns : Option UnitBodies → ℕ → ℕ → Trace → Exit → Type 0
TextRuns None actor budget trace exit = (trace ≡ []) × (exit ≡ Stopped)
TextRuns (Some bodies) actor budget trace exit = Along (task_run bodies actor budget) trace exit

-- Where it was stopped, and had bodies, a request stopped it, or a body that started for it: no act was left, or it was
-- answered Halted, Full or Misuse. (own)
abbrev pub TextStops : Option UnitBodies → Exit → Passing → Trace → Type 0
TextStops (Some bodies) Stopped lent trace = StoppedAt lent trace
TextStops bodies exit lent trace = Unit {0}

-- one run of a task's text by the bodies that were lent, by a port whose actor held nothing, with the mark that bodies which were wanted couldn't be had (own)
pub record TextLent (v : Passing) (mark : Bool) (budget : ℕ) (exit : Exit) (w : Passing) (after : Bool) : Type 0 where
  pub none_held : held_by v ≡ 0
  pub bodies : Option UnitBodies
  pub lent : Passing
  pub borrows : Borrows v bodies lent
  pub trace : Trace
  pub runs : TextRuns bodies v.actor budget trace exit
  pub went : Went lent trace w
  pub stops : TextStops bodies exit lent trace
  pub marked_is : after ≡ marked mark bodies

-- an actor that holds something, as one that was left in a body, runs no text
abbrev pub TextBarred : Passing → Bool → Exit → Passing → Bool → Type 0
TextBarred v mark exit w after = (0 < held_by v) × (w ≡ v) × (after ≡ mark) × (exit ≡ Stopped)

-- One run of a task's text. Where no act was left for the bodies, or the actor holds something, nothing changed, and it is
-- stopped. (own)
abbrev pub TextRan : Passing → Bool → ℕ → Exit → Passing → Bool → Type 0
TextRan v mark budget exit w after =
    (IsWorn v w × (after ≡ mark) × (exit ≡ Stopped)) ⊎ (TextBarred v mark exit w after ⊎ TextLent v mark budget exit w after)

-- A port is let go of whose text ran: the text has asked its quit, where its task may, so nothing more is asked. Where bodies
-- couldn't be had, which is marked, the port asks it. (own)
abbrev pub LeavesText : Bool → Passing → Passing → Type 0
LeavesText true v w = Quits v w
LeavesText false v w = w ≡ v
