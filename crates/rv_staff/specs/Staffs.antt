-- What contracts see of a host that runs. (own)
use Rattle.std.specs.Prelude.{◌≡◌, []}
use Rattle.rv_port.specs.Traces.{Passing}
use Rattle.rv_crew.specs.Teams.{Team, IsOfTurn, no_threads}
use Rattle.rv_staff.specs.declared.work.Work.{Work}

-- the crew of a run: each thread owes a port with its work done
abbrev pub Workers : Type 0
Workers = Team Work

-- its operator, and the crew of its threads
pub record Staffed : Type 0 where
  pub control : Passing
  pub crew : Workers

-- no thread
abbrev pub no_crew : Workers
no_crew = no_threads 0

-- each thread has a port of this control, and none was joined, so nothing was paid
pub record AreOf (control : Passing) (crew : Workers) : Type 0 where
  pub none_joined : crew.joined ≡ []
  pub none_paid : crew.paid ≡ []
  pub one_turn : IsOfTurn control.turn crew
