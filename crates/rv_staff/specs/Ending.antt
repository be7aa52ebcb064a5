-- The end of a run. (own)
use Rattle.std.specs.Prelude.{◌≡◌, ◌⊎◌, Bool, true, List, []}
use Rattle.rv_event.specs.declared.entry.Answer.{Answer}
use Rattle.rv_event.specs.declared.entry.Request.TheVariants as asks
use Rattle.rv_turn.specs.Passes.{IsWorn}
use Rattle.rv_port.specs.Traces.{Passing}
use Rattle.rv_port.specs.Ports.{Porting}
use Rattle.rv_port.specs.Controls.{Told}
use Rattle.rv_behind.specs.declared.event.Ask.{Ask}
use Rattle.rv_crew.specs.Abandoning.{Abandons}
use Rattle.rv_crew.specs.Crews.{Joins, IsClosedBy, with_joined}
use Rattle.rv_crew.specs.declared.crew.Closed.{Closed}
use Rattle.rv_staff.specs.Staffs.{Staffed, Workers}
use Rattle.rv_staff.specs.Working.{Works}

-- the operator asks for the end of the host, if an act is left
abbrev pub Halts : Passing → Passing → Type 0
Halts v w = ((answer : Answer) × Told v (Ask.Step asks.Halt) answer w) ⊎ IsWorn v w

-- Where the end is hurried, threads may be given up that didn't end in time; else none is.
abbrev pub Waits : (hurries : Bool) → Workers → Workers → Type 0
Waits hurries crew after = (after ≡ crew) ⊎ ((hurries ≡ true) × Abandons crew after)

-- Each thread is joined but those that were given up, and has done its work. The host is then that at the close of the control and of the ports that came
-- back.
pub record Closes (hurries : Bool) (control : Passing) (crew : Workers) (closed : Closed) : Type 0 where
  pub left : Workers
  pub waits : Waits hurries crew left
  pub back : List Porting
  pub joined : Joins Works [] left.running back
  pub closes : IsClosedBy Works (with_joined left back) control closed

-- the host is halted, and then closed
pub record Ended (hurries : Bool) (staff : Staffed) (closed : Closed) : Type 0 where
  pub control : Passing
  pub halted : Halts staff.control control
  pub closes : Closes hurries control staff.crew closed
