-- The texts of a run's tasks, in its journal.
use Rattle.std.proofs.Common.{List, [], ◌∷◌}
use Rattle.rv_history.specs.declared.limits.Limits.{Limits}
use Rattle.rv_behind.specs.Events.{log_of}
use Rattle.rv_behind.specs.declared.event.Event.{Event}
use Rattle.rv_port.specs.Ports.{Porting}
use Rattle.rv_port.specs.Traces.{Passing}
use Rattle.rv_crew.specs.Crews.{IsClosedBy, StaysFollowed}
use Rattle.rv_crew.specs.Teams.{EachTwo, Owed, Pays}
use Rattle.rv_crew.specs.declared.crew.Closed.{Closed}
use Rattle.rv_staff.specs.Staffs.{Workers}
use Rattle.rv_staff.specs.Texts.{IsTextOf, TextIsFollowed}
use Rattle.rv_staff.specs.Working.{Works}
use Rattle.rv_staff.specs.declared.work.Work.{Work}
use Rattle.rv_staff.specs.declared.work.Work.TheVariants.{Text, Device, Line, Lines}

text_of : (work : Work) (limits : Limits) (log : List Event) (began back : Porting) → Works work began back → StaysFollowed limits log began back → IsTextOf work limits log began back
text_of (Text budget notices) limits log began back works stays = stays budget works.1
text_of (Device object operation calls) limits log began back works stays = tt
text_of (Line raised notices) limits log began back works stays = tt
text_of (Lines alloc pipes names) limits log began back works stays = tt

each_text : (limits : Limits) (log : List Event) (paid : List (Owed Work)) (ports : List Porting) → EachTwo (Pays Works) paid ports → EachTwo (λ (o : Owed Work) (p : Porting). StaysFollowed limits log o.port p) paid ports
    → EachTwo (TextIsFollowed limits log) paid ports
each_text limits log [] [] done stays = tt
each_text limits log [] (p ∷ ps) done stays = absurd done
each_text limits log (o ∷ os) [] done stays = absurd done
each_text limits log (o ∷ os) (p ∷ ps) done stays = (text_of o.duty limits log o.port p done.0.2 stays.0, each_text limits log os ps done.1 stays.1)

pub texts_followed : (crew : Workers) (control : Passing) (closed : Closed) (by_close : IsClosedBy Works crew control closed)
    → EachTwo (TextIsFollowed closed.host.limits (log_of closed.host by_close.host.units)) crew.paid crew.joined
texts_followed crew control closed by_close = each_text closed.host.limits (log_of closed.host by_close.host.units) crew.paid crew.joined by_close.done by_close.followed
