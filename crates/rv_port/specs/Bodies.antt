-- What runs between a start and its end. (own)
use Rattle.std.specs.Prelude.{◌≡◌, ◌⊎◌, ℕ, ℤ, Bool, true, List, [], Option, Some, None}
use Rattle.rv_event.specs.declared.entry.Request.{Request}
use Rattle.rv_event.specs.declared.entry.Request.TheVariants.{Complete}
use Rattle.rv_event.specs.declared.entry.Exit.{Exit}
use Rattle.rv_event.specs.declared.entry.Exit.TheVariants.{Raise}
use Rattle.rv_event.specs.declared.entry.Exception.TheVariants.{ProgramError}
use Rattle.rv_code.specs.Bodies.{UnitBodies}
use Rattle.rv_exec.specs.Asking.{Along}
use Rattle.rv_exec.specs.Blocks.{operation_run_at}
use Rattle.rv_outside.specs.Ends.{given_by}
use Rattle.rv_port.specs.declared.body.Ended.{Ended}
use Rattle.rv_behind.specs.declared.event.Begun.{Begun}
use Rattle.rv_behind.specs.declared.event.Lent.{Lent}
use Rattle.rv_behind.specs.Acting.{lent_view}
use Rattle.rv_port.specs.Held.{held_by}
use Rattle.rv_port.specs.Traces.{Passing, Trace, Went}

-- where the bodies couldn't be had the body leaves the scalars and exits by `raise Program_Error` (own)
abbrev pub left_alone : Begun → List ℤ → Ended
left_alone begun scalars = record { scalars = given_by begun scalars; exit = Raise ProgramError }

-- Of these bodies that of this operation, called with these values on these scalars, by an actor that holds so many objects with
-- its own, asks this and ends so, by what bodies mean; an operation without a body leaves the scalars and exits by
-- `raise Program_Error`. (own)
abbrev pub Runs : Option UnitBodies → (held : ℕ) → Begun → List ℤ → List ℤ → Trace → Ended → Type 0
Runs None held begun scalars arguments trace ended = (trace ≡ []) × (ended ≡ left_alone begun scalars)
Runs (Some bodies) held begun scalars arguments trace ended =
    (left : List ℤ) × Along (operation_run_at bodies held begun.object begun.operation arguments scalars) trace (ended.exit, left)
    × (ended.scalars ≡ given_by begun left)

-- The same, where the request asks for that end, which is by this exit. (own)
abbrev pub RunsTo : Option UnitBodies → (held : ℕ) → Begun → List ℤ → List ℤ → Trace → Request → Exit → Type 0
RunsTo bodies held begun scalars arguments trace request exit =
    (ended : Ended) × Runs bodies held begun scalars arguments trace ended × (request ≡ Complete ended.scalars ended.exit) × (exit ≡ ended.exit)

-- the mark that bodies which were wanted couldn't be had, after a body ran by these bodies, or without (own)
abbrev pub marked : Bool → Option UnitBodies → Bool
marked mark None = true
marked mark (Some bodies) = mark

-- what was lent is had, unless memory for a run of it was refused (own)
abbrev pub IsHad : Option Lent → Option Lent → Type 0
IsHad lent had = (had ≡ lent) ⊎ (had ≡ None)

-- A body that started on a port ran up to the request for its end, which is by this exit: by the bodies that were lent, or
-- without, where they couldn't be had, which is marked. (own)
pub record RanTo (lent : Option Lent) (v : Passing) (mark : Bool) (begun : Begun) (scalars arguments : List ℤ) (request : Request) (exit : Exit) (w : Passing) (after : Bool) : Type 0 where
  pub had : Option Lent
  pub had_is : IsHad lent had
  pub trace : Trace
  pub runs : RunsTo (lent_view had) (held_by v) begun scalars arguments trace request exit
  pub went : Went v trace w
  pub marked_is : after ≡ marked mark (lent_view had)
