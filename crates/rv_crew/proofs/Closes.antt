-- The ends of ports that came back, in the journal at the close.
use Rattle.std.proofs.Common.{◌≡◌, List, [], ◌∷◌, ◌++◌, map, Some, sym, ap, ◌∙◌, subst}
use Rattle.rv_history.specs.declared.limits.Limits.{Limits}
use Rattle.rv_turn.specs.Histories.{Each}
use Rattle.rv_turn.specs.Passes.{StandsIn}
use Rattle.rv_accounts.specs.Explained.{Explained}
use Rattle.rv_accounts.specs.Followed.{TextFollowed}
use Rattle.rv_accounts.proofs.FollowedLater.{stays}
use Rattle.rv_accounts.proofs.Staying.{others}
use Rattle.rv_behind.specs.Events.{by, log_of}
use Rattle.rv_behind.specs.declared.event.Event.{Event}
use Rattle.rv_port.specs.Closing.{IsClosed}
use Rattle.rv_port.specs.Ports.{Porting, pass_of}
use Rattle.rv_port.specs.Traces.{Passing, limits_in}
use Rattle.rv_crew.specs.Crews.{ExplainedIn, IsClosedBy, Keeps, StaysFollowed, actor_of}
use Rattle.rv_crew.specs.Teams.{EachTwo, Owed, Pays, Team}
use Rattle.rv_crew.specs.declared.crew.Closed.{Closed}

stands_explained : (limits : Limits) (log : List Event) (p : Porting) → Keeps p → StandsIn by log (pass_of p) → p.about ≡ Some limits → ExplainedIn limits log p
stands_explained limits log p k s about is =
    subst (λ (l : Limits). Explained l log p.actor) (ap limits_in about)
    (others (limits_in p.about) p.seen log p.actor s.0 (s.1 ∙ (ap (λ (l : List Event). l ++ p.own) k.0.base ∙ sym k.0.owns)) (k.1 is))

pub each_explained : (limits : Limits) (log : List Event) (ports : List Porting) → Each (λ p. Keeps p) ports → Each (StandsIn by log) (map pass_of ports) → Each (λ p. p.about ≡ Some limits) (map pass_of ports) → Each (ExplainedIn limits log) ports
each_explained limits log [] k s a = tt
each_explained limits log (p ∷ ps) k s a = (stands_explained limits log p k.0 s.0 a.0, each_explained limits log ps k.1 s.1 a.1)

-- a text that was followed in what a port had seen is followed in the journal
stands_followed : (limits : Limits) (log : List Event) (began p : Porting) → Keeps p → StandsIn by log (pass_of p) → p.about ≡ Some limits → StaysFollowed limits log began p
stands_followed limits log began p k s about budget follows none task is =
    subst (λ (l : Limits). TextFollowed l p.actor budget p.left began.seen log) (ap limits_in about)
    (stays (limits_in p.about) p.actor budget p.left p.left began.seen p.seen log (λ e. e) s.0 (s.1 ∙ (ap (λ (l : List Event). l ++ p.own) k.0.base ∙ sym k.0.owns)) (follows none task is))

each_followed : {D : Type 0} (does : D → Porting → Porting → Type 0) (limits : Limits) (log : List Event) (paid : List (Owed D)) (ports : List Porting) → EachTwo (Pays does) paid ports → Each (λ p. Keeps p) ports
    → Each (StandsIn by log) (map pass_of ports) → Each (λ p. p.about ≡ Some limits) (map pass_of ports) → EachTwo (λ (o : Owed D) (p : Porting). StaysFollowed limits log o.port p) paid ports
each_followed does limits log [] [] e k s a = tt
each_followed does limits log [] (p ∷ ps) e k s a = absurd e
each_followed does limits log (o ∷ os) [] e k s a = absurd e
each_followed does limits log (o ∷ os) (p ∷ ps) e k s a = (stands_followed limits log o.port p k.0 s.0 a.0, each_followed does limits log os ps e.1 k.1 s.1 a.1)

pub closed_by : {D : Type 0} (does : D → Porting → Porting → Type 0) (crew : Team D) (control : Passing) (closed : Closed) → Each (λ p. Keeps p) crew.joined → EachTwo (Pays does) crew.paid crew.joined
    → IsClosed control (map pass_of crew.joined) crew.noted closed.host → closed.finished.items ≡ map actor_of crew.joined
    → closed.lost.items ≡ crew.lost → closed.abandoned ≡ crew.abandoned → IsClosedBy does crew control closed
closed_by does crew control closed keeps paid host finished lost abandoned = record {
  host = host;
  finished = finished;
  lost = lost;
  abandoned = abandoned;
  explained = each_explained closed.host.limits (log_of closed.host host.units) crew.joined keeps host.ports_stand host.ports_limits;
  done = paid;
  followed = each_followed does closed.host.limits (log_of closed.host host.units) crew.paid crew.joined paid keeps host.ports_stand host.ports_limits;
}
