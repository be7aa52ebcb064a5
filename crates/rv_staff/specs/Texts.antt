-- The texts of a run's tasks, in its journal. (own)
use Rattle.std.specs.Prelude.{List}
use Rattle.rv_history.specs.declared.limits.Limits.{Limits}
use Rattle.rv_behind.specs.declared.event.Event.{Event}
use Rattle.rv_port.specs.Ports.{Porting}
use Rattle.rv_crew.specs.Crews.{TextFollowedIn}
use Rattle.rv_crew.specs.Teams.{Owed}
use Rattle.rv_staff.specs.declared.work.Work.{Work}
use Rattle.rv_staff.specs.declared.work.Work.TheVariants.{Text, Device, Line, Lines}

-- what a task asked in a history, of a host with these limits, whose thread had its text as its work, is what that text asks
abbrev pub IsTextOf : Work → Limits → List Event → (began back : Porting) → Type 0
IsTextOf (Text budget notices) limits log began back = TextFollowedIn limits log budget began back
IsTextOf (Device object operation calls) limits log began back = Unit {0}
IsTextOf (Line raised notices) limits log began back = Unit {0}
IsTextOf (Lines alloc pipes names) limits log began back = Unit {0}

abbrev pub TextIsFollowed : Limits → List Event → Owed Work → Porting → Type 0
TextIsFollowed limits log owed back = IsTextOf owed.duty limits log owed.port back
