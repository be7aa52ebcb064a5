-- A crew whose ports are of one turn, and what stays of a lost one.
use Rattle.std.proofs.Common.{◌≡◌, ◌∙◌, ℕ, List, [], ◌∷◌, ◌++◌, length, inl, inr, refl, sym, subst}
use Rattle.std.specs.Prelude.{Result, Ok, Err}
use Rattle.atomic_table.specs.Seated.{TableId}
use Rattle.rv_turn.specs.Histories.{mine, Each, StartsWith}
use Rattle.rv_turn.specs.Passes.{Noted}
use Rattle.rv_port.specs.Controls.{IsPorts}
use Rattle.rv_behind.specs.Events.{by, log_of}
use Rattle.rv_port.specs.Ports.{Porting, pass_of}
use Rattle.rv_port.specs.Traces.{Passing}
use Rattle.rv_behind.specs.declared.event.Event.{Event}
use Rattle.rv_port.proofs.Closings.{mine_later}
use Rattle.rv_crew.specs.Teams.{EachTwo, IsOfTurn, Owed, Pays, Team, no_threads, owing}
use Rattle.rv_crew.specs.Crews.{HasLost, IsClosedBy, Joins, note_of, with_started, given_up, with_lost, with_joined}
use Rattle.rv_crew.specs.Abandoning.{Abandons, Parts, actors_out}
use Rattle.rv_crew.specs.Hiring.{hired}
use Rattle.rv_crew.specs.declared.crew.Closed.{Closed}
use Rattle.rv_crew.specs.declared.hiring.HireFault.{HireFault}
use Rattle.rv_crew.specs.declared.hiring.HireFault.TheVariants.{NoThread, GivenUp, NoMemory}

each_both : {X : Type 0} (P : X → Type 0) (xs ys : List X) → Each P xs → Each P ys → Each P (xs ++ ys)
each_both P [] ys p q = q
each_both P (x ∷ xs) ys p q = (p.0, each_both P xs ys p.1 q)

-- each port that comes back is of the turn of what was owed
each_paid : {D : Type 0} (does : D → Porting → Porting → Type 0) (turn : TableId) (owed : List (Owed D)) (back : List Porting)
    → EachTwo (Pays does) owed back → Each (λ (o : Owed D). o.port.turn ≡ turn) owed → Each (λ (port : Porting). port.turn ≡ turn) back
each_paid does turn [] [] paid of = tt
each_paid does turn [] (p ∷ ps) paid of = absurd paid
each_paid does turn (o ∷ os) [] paid of = absurd paid
each_paid does turn (o ∷ os) (p ∷ ps) paid of = (paid.0.0 ∙ of.0, each_paid does turn os ps paid.1 of.1)

-- a crew without ports
pub none_of_turn : {D : Type 0} (turn : TableId) (refuses : ℕ) → IsOfTurn {D = D} turn (no_threads refuses)
none_of_turn turn refuses = record { out = tt; back = tt; gone = tt }

-- one thread more, on a port of that turn
pub started_of_turn : {D : Type 0} (turn : TableId) (crew : Team D) (port : Porting) (duty : D) → IsOfTurn turn crew → port.turn ≡ turn → IsOfTurn turn (with_started crew port duty)
started_of_turn {D} turn crew port duty of is = record {
  out = each_both (λ (owed : Owed D). owed.port.turn ≡ turn) crew.running (owing port duty ∷ []) of.out (is, tt);
  back = of.back;
  gone = of.gone;
}

-- a port of that turn that is given up
pub given_up_of_turn : {D : Type 0} (turn : TableId) (crew : Team D) (port : Porting) → IsOfTurn turn crew → port.turn ≡ turn → IsOfTurn turn (given_up crew port)
given_up_of_turn turn crew port of is = record {
  out = of.out;
  back = of.back;
  gone = each_both (λ (note : Noted Event). note.turn ≡ turn) crew.noted (note_of port ∷ []) of.gone (is, tt);
}

-- a port of that turn that is lost with its job
pub lost_of_turn : {D : Type 0} (turn : TableId) (crew : Team D) (port : Porting) → IsOfTurn turn crew → port.turn ≡ turn → IsOfTurn turn (with_lost crew port)
lost_of_turn turn crew port of is = let up = given_up_of_turn turn crew port of is in record { out = up.out; back = up.back; gone = up.gone }

-- a port of that turn whose thread begins, or that is lost
pub hired_of_turn : {D : Type 0} (crew : Team D) (port : Porting) (duty : D) (result : Result (Unit {0}) HireFault) → IsOfTurn port.turn crew → IsOfTurn port.turn (hired crew port duty result)
hired_of_turn crew port duty (Ok x) of = started_of_turn port.turn crew port duty of refl
hired_of_turn crew port duty (Err NoThread) of = lost_of_turn port.turn crew port of refl
hired_of_turn crew port duty (Err GivenUp) of = given_up_of_turn port.turn crew port of refl
hired_of_turn crew port duty (Err NoMemory) of = of

-- the threads are joined
pub joined_of_turn : {D : Type 0} (does : D → Porting → Porting → Type 0) (turn : TableId) (crew after : Team D) → IsOfTurn turn crew → Joins does crew.joined crew.running after.joined
    → after ≡ with_joined crew after.joined → IsOfTurn turn after
joined_of_turn does turn crew after of joins is =
    let came = each_both (λ (port : Porting). port.turn ≡ turn) crew.joined joins.0 of.back (each_paid does turn crew.running joins.0 joins.1 of.out) in
    let back : Each (λ (port : Porting). port.turn ≡ turn) after.joined = subst (Each (λ (port : Porting). port.turn ≡ turn)) (sym joins.2) came in
    let all : IsOfTurn turn (with_joined crew after.joined) = record { out = tt; back = back; gone = of.gone } in
    subst (IsOfTurn turn) (sym is) all

-- some threads are given up
each_stays : {D : Type 0} (P : Owed D → Type 0) (threads stay gone : List (Owed D)) → Parts threads stay gone → Each P threads → Each P stay
each_stays P [] stay gone parts each = subst (Each P) (sym parts.0) tt
each_stays P (thread ∷ threads) stay gone (inl p) each = subst (Each P) (sym p.1) (each.0, each_stays P threads p.0 gone p.2 each.1)
each_stays P (thread ∷ threads) stay gone (inr p) each = each_stays P threads stay p.0 p.2 each.1

pub abandoned_of_turn : {D : Type 0} (turn : TableId) (crew after : Team D) → IsOfTurn turn crew → Abandons crew after → IsOfTurn turn after
abandoned_of_turn {D} turn crew after of given_up =
    let left : IsOfTurn turn (record crew { running = given_up.stay; lost = crew.lost ++ actors_out given_up.gone; abandoned = length given_up.gone }) = record {
      out = each_stays (λ (owed : Owed D). owed.port.turn ≡ turn) crew.running given_up.stay given_up.gone given_up.parts of.out;
      back = of.back;
      gone = of.gone;
    } in
    subst (IsOfTurn turn) (sym given_up.is) left

-- what was noted of a port that was lost stays, and with it its entries
each_within : (P : Noted Event → Type 0) (before after : List (Noted Event)) (note : Noted Event) → Each P (before ++ note ∷ after) → P note
each_within P [] after note t = t.0
each_within P (x ∷ before) after note t = each_within P before after note t.1

pub lost_stays : {D : Type 0} (does : D → Porting → Porting → Type 0) (crew : Team D) (control : Passing) (closed : Closed) (port : Porting) → IsPorts (pass_of port) → HasLost crew port → (c : IsClosedBy does crew control closed)
    → StartsWith (mine by port.actor (log_of closed.host c.host.units)) port.own
lost_stays does crew control closed port keeps lost c =
    let log = log_of closed.host c.host.units in
    let stays : StartsWith log port.seen = each_within (λ note. StartsWith log note.seen) lost.0 lost.1 (note_of port) (subst (Each (λ (note : Noted Event). StartsWith log note.seen)) lost.2 c.host.notes_stay) in
    subst (StartsWith (mine by port.actor log)) keeps.owns (mine_later port.actor port.seen log stays)
