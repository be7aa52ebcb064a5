-- What the start of a thread leaves. (own)
use Rattle.std.specs.Prelude.{Result, Ok, Err}
use Rattle.rv_port.specs.Ports.{Porting}
use Rattle.rv_crew.specs.Teams.{Team}
use Rattle.rv_crew.specs.Crews.{given_up, with_started, with_lost}
use Rattle.rv_crew.specs.declared.hiring.HireFault.{HireFault}
use Rattle.rv_crew.specs.declared.hiring.HireFault.TheVariants.{NoThread, GivenUp, NoMemory}

-- The crew has one thread more, which owes this port with its duty done; or its actor is lost, without a thread or for want of memory; or there was no
-- memory to keep that either, and the crew is as before.
abbrev pub hired : {D X : Type 0} → Team D → Porting → D → Result X HireFault → Team D
hired crew port duty (Ok x) = with_started crew port duty
hired crew port duty (Err NoThread) = with_lost crew port
hired crew port duty (Err GivenUp) = given_up crew port
hired crew port duty (Err NoMemory) = crew
