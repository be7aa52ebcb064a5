-- What a call on a port did. (own)
use Rattle.std.specs.Prelude.{◌≡◌, ◌⊎◌, ℕ, ℤ, ◌≤◌, nat_lt, ◌==◌, Bool, true, false, List, [], ◌∷◌, ◌++◌, Option, Some}
use Rattle.rv_code.specs.Bodies.{UnitBodies}
use Rattle.rv_exec.specs.Stops.{Unwinds, stops_bodies}
use Rattle.rv_event.specs.declared.entry.Request.{Request}
use Rattle.rv_event.specs.declared.entry.Request.TheVariants.{Call, Complete, Settle, Resume, DelayUntil, Quit}
use Rattle.rv_event.specs.declared.entry.Exit.{Exit}
use Rattle.rv_event.specs.declared.entry.Exit.TheVariants as Exits
use Rattle.rv_event.specs.declared.entry.Answer.{Answer}
use Rattle.rv_event.specs.declared.entry.Answer.TheVariants as Answers
use Rattle.rv_event.specs.declared.entry.Recorded.{Recorded}
use Rattle.rv_event.specs.declared.entry.Recorded.TheVariants as Words
use Rattle.rv_event.specs.declared.entry.Next.{Next}
use Rattle.rv_event.specs.declared.entry.Next.TheVariants.{HandedTo, Dropped}
use Rattle.rv_shape.specs.Catalogue.{first_task}
use Rattle.rv_port.specs.declared.body.Ended.{Ended}
use Rattle.rv_behind.specs.declared.event.Begun.{Begun}
use Rattle.rv_behind.specs.declared.event.Event.{Event}
use Rattle.rv_behind.specs.declared.event.Event.TheVariants.{Asks}
use Rattle.rv_port.specs.declared.reached.Reached.{Reached}
use Rattle.rv_port.specs.declared.reached.Reached.TheVariants as Reaches
use Rattle.rv_behind.specs.Events.{catalogue_of, called}
use Rattle.rv_port.specs.Later.{version_seen}
use Rattle.rv_turn.specs.Histories.{StartsWith}
use Rattle.rv_accounts.specs.Seen.{but_settles}
use Rattle.rv_port.specs.Traces.{Passing, Trace, told, noted, WoreOut, Went, Asked, asks_on, SettlesBehind}
use Rattle.rv_behind.specs.Acting.{IsLent, lent_view}
use Rattle.rv_behind.specs.declared.event.Lent.{Lent}
use Rattle.rv_port.specs.Bodies.{Runs, IsHad, marked}
use Rattle.rv_port.specs.Held.{held_by, Owns}
use Rattle.rv_port.specs.Reaching.{arguments_of, reads, values_of, plain_of, end_of, reached_by, waits_on, waited_for}

-- the pass's own events have grown, if at all (own)
abbrev pub Grown : Passing → Passing → Type 0
Grown v w = (more : List Event) × (w.own ≡ v.own ++ more)

-- A port stays what it was: of one control and one actor, with the same limits, it forgets nothing that it saw or did, and
-- gains no act. (own)
pub record Stays (v w : Passing) : Type 0 where
  pub turn : w.turn ≡ v.turn
  pub actor : w.actor ≡ v.actor
  pub about : w.about ≡ v.about
  pub later : StartsWith w.seen v.seen
  pub grown : Grown v w
  pub fewer : w.left ≤ v.left

-- no act was left for the request, and nothing was recorded (own)
abbrev pub Wore : Passing → Request → Reached → Passing → Type 0
Wore v q reached w = WoreOut v q w × (reached ≡ Reaches.Stopped)

-- the end of a body was asked by this request, with this exit, and then the port settled, where it had to; or no act was left for
-- the end. What is reached is what the end says, also where no act was left for a settle. (own)
abbrev pub Ends : Passing → Request → Exit → Reached → Passing → Type 0
Ends v q exit reached w =
    Wore v q reached w
    ⊎ ((d : Answer) × (u : Passing) × Asked v q d u × (asks_on d ≡ false) × (reached ≡ end_of d exit) × SettlesBehind d u w)

-- the same; where the actor holds another number of objects than at the body's start it is left in a body that this one called:
-- then the end isn't asked (own)
abbrev pub EndsIf : Bool → Passing → Request → Exit → Reached → Passing → Type 0
EndsIf true v q exit reached w = Ends v q exit reached w
EndsIf false v q exit reached w = (w ≡ v) × (reached ≡ Reaches.Stopped)

-- A body that started asked what it asks by these bodies, and ended, where an act was left. (own)
pub record RanOn (bodies : Option UnitBodies) (started : Passing) (begun : Begun) (scalars arguments : List ℤ) (reached : Reached) (w : Passing) : Type 0 where
  pub trace : Trace
  pub ended : Ended
  pub runs : Runs bodies (held_by started) begun scalars arguments trace ended
  pub body : Passing
  pub went : Went started trace body
  pub owned : Owns body
  pub end_is : EndsIf (held_by body == held_by started) body (Complete ended.scalars ended.exit) ended.exit reached w

-- The same by the bodies that were lent, or without, where they couldn't be had, which is marked. (own)
abbrev pub RanBehind : Option Lent → Passing → Bool → Begun → List ℤ → List ℤ → Reached → Passing → Bool → Type 0
RanBehind lent started mark begun scalars arguments reached w after =
    (had : Option Lent) × IsHad lent had × RanOn (lent_view had) started begun scalars arguments reached w × (after ≡ marked mark (lent_view had))

-- The same by the bodies of all units that this history loads, or without, where a port can't hold them, which is marked. (own)
abbrev pub Ran : List Event → Passing → Bool → Begun → List ℤ → List ℤ → Reached → Passing → Bool → Type 0
Ran log started mark begun scalars arguments reached w after =
    (bodies : Option UnitBodies) × IsLent log bodies × (after ≡ marked mark bodies) × RanOn bodies started begun scalars arguments reached w

-- what followed an answer to a resume, on this history (own)
abbrev pub Resumed : Answer → List Event → Passing → Bool → Request → Reached → Passing → Bool → Type 0
Resumed (Answers.Woken (Some scalars)) log u mark q reached w after =
    Ran log u mark (waited_for q) scalars (arguments_of q) reached w after
Resumed r log u mark q reached w after = (w ≡ u) × (after ≡ mark) × (reached ≡ plain_of false r)

-- the wait of a request: its resume, and what followed it (own)
abbrev pub Waited : Passing → Bool → Request → Reached → Passing → Bool → Type 0
Waited v mark q reached w after =
    (Wore v Resume reached w × (after ≡ mark))
    ⊎ ((r : Answer) × (u : Passing) × (x : Asked v Resume r u) × (asks_on r ≡ false) × Resumed r x.at u mark q reached w after)

-- what followed an answer to a request on this history, where a start is of this operation (own)
abbrev pub Followed : Answer → List Event → Begun → Passing → Bool → Request → Reached → Passing → Bool → Type 0
Followed (Answers.Started scalars) log begun u mark q reached w after = Ran log u mark begun scalars (arguments_of q) reached w after
Followed Answers.Queued log begun u mark q reached w after = Waited u mark q reached w after
Followed Answers.Suspended log begun u mark q reached w after = Waited u mark q reached w after
Followed Answers.Delayed log begun u mark q reached w after = Waited u mark q reached w after
Followed r log begun u mark q reached w after = (w ≡ u) × (after ≡ mark) × (reached ≡ plain_of (reads q) r)

-- One performance of a request: its answer, which is due on a legal history that begins with all that was seen, and what
-- followed: a body and its end, a wait, or nothing. Or no act was left. The mark before and after tells whether bodies
-- couldn't be had. (own)
abbrev pub Performed : Passing → Bool → Request → Reached → Passing → Bool → Type 0
Performed v mark q reached w after =
    (Wore v q reached w × (after ≡ mark))
    ⊎ ((r : Answer) × (u : Passing) × (x : Asked v q r u) × (asks_on r ≡ false)
    × Followed r x.at (called (catalogue_of x.at) v.actor q) u mark q reached w after)

-- one request, asked once: none was in vain before (own)
abbrev pub AskedOnce : Passing → Request → Answer → Passing → Type 0
AskedOnce v q r w = (x : Asked v q r w) × (x.in_vain.times ≡ [])

-- the end of a port: a line asks nothing, a task asks Quit, once, where an act is left (own)
abbrev pub QuitBy : Bool → Passing → Passing → Type 0
QuitBy true v w = w ≡ v
QuitBy false v w = ((v.left ≡ 0) × (w ≡ v)) ⊎ ((r : Answer) × AskedOnce v Quit r w)

abbrev pub Quits : Passing → Passing → Type 0
Quits v w = QuitBy (nat_lt v.actor first_task) v w

-- What is reached, by the pass's own events

-- by what a request waits that starts no body, as it is recorded: a call of Suspend_Until_True, and a delay (9.6, D.10)
abbrev pub IsPause : Request → Recorded → Type 0
IsPause (Call object operation values) Words.Suspended = Unit {0}
IsPause (DelayUntil time) Words.Delayed = Unit {0}
IsPause q word = ⊥

-- the answer to the request is the last of the pass's own events, or after a wait in a queue that to its resume, and nothing
-- else is new (own)
abbrev pub Answered : Passing → Request → Recorded → Passing → Type 0
Answered v q word w =
    (w.own ≡ v.own ++ Asks v.actor q word ∷ [])
    ⊎ (w.own ≡ v.own ++ Asks v.actor q Words.Queued ∷ Asks v.actor Resume word ∷ [])

-- the end of a body that hands its object over to an actor (9.5.3)
abbrev pub HandsOver : ℕ → Event → Type 0
HandsOver a e = (b : ℕ) × (r : Request) × (e ≡ Asks b r (Words.Done (HandedTo a)))

-- A call's own first events, and the start of its body: it was answered Started, which is the start; or it waited in a queue
-- and was woken, and the start is the end of another's body that handed the object over (9.5.1, 9.5.3)
abbrev pub Opens : ℕ → Request → List Event → Event → Type 0
Opens a q first start =
    ((first ≡ Asks a q Words.Started ∷ []) × (start ≡ Asks a q Words.Started))
    ⊎ ((first ≡ Asks a q Words.Queued ∷ Asks a Resume Words.Woken ∷ []) × HandsOver a start)

-- this is new in what was seen (own)
abbrev pub IsNew : Event → List Event → List Event → Type 0
IsNew e before after = (more : List Event) × (rest : List Event) × (after ≡ before ++ (more ++ e ∷ rest))

-- A body of the call has started, and asked this: the call's first events, and what the body asked with the settles behind the
-- ends in it, are the growth of the pass's own events, and the start is new in what was seen. (own)
pub record InBody (v : Passing) (q : Request) (asked : Trace) (u : Passing) : Type 0 where
  pub first : List Event
  pub start : Event
  pub opens : Opens v.actor q first start
  pub is_new : IsNew start v.seen u.seen
  pub inside : List Event
  pub inside_is : but_settles inside ≡ noted v.actor asked
  pub own_is : u.own ≡ v.own ++ (first ++ inside)

-- the events behind an end, or a settle, that was answered so: where it dropped a caller there may be one settle more (own)
abbrev pub AreSettles : ℕ → Next → List Event → Type 0
AreSettles a next [] = Unit {0}
AreSettles a (Dropped actor line) (e ∷ es) = (next : Next) × (e ≡ Asks a Settle (Words.Done next)) × AreSettles a next es
AreSettles a next (e ∷ es) = ⊥

-- A body of the call ended by this exit: the call's first events, what the body asked with the settles behind the ends in it, the
-- end, and the settles behind it are the growth of the pass's own events, and the start is new in what was seen. (own)
pub record EndedBy (v : Passing) (q : Request) (exit : Exit) (w : Passing) : Type 0 where
  pub first : List Event
  pub start : Event
  pub opens : Opens v.actor q first start
  pub is_new : IsNew start v.seen w.seen
  pub asked : Trace
  pub scalars : List ℤ
  pub next : Next
  pub inside : List Event
  pub inside_is : but_settles inside ≡ noted v.actor asked
  pub behind : List Event
  pub settles : AreSettles v.actor next behind
  pub own_is : w.own ≡ v.own ++ (first ++ (inside ++ Asks v.actor (Complete scalars exit) (Words.Done next) ∷ behind))

-- an end with these values, or an answer without a body: Accepted, with the value that was read, or Woken (own)
abbrev pub Back : Passing → Request → List ℤ → Passing → Type 0
Back v q values w =
    EndedBy v q (Exits.Return values) w
    ⊎ (((value : ℤ) × (values ≡ values_of (reads q) value) × (w.own ≡ v.own ++ Asks v.actor q (Words.Accepted value) ∷ []))
    ⊎ ((wait : Recorded) × IsPause q wait × (values ≡ [])
    × (w.own ≡ v.own ++ Asks v.actor q wait ∷ Asks v.actor Resume Words.Woken ∷ [])))

-- the answer to the last ask stops the call: the host is halted or has no room, or a body's end doesn't fit (own)
abbrev pub stops_at : Request → Answer → Bool
stops_at request Answers.Halted = true
stops_at request Answers.Full = true
stops_at (Complete scalars exit) Answers.Misuse = true
stops_at request answer = false

-- the last ask of a call: the request itself; its resume, where the answer was to wait; or the end of its body (own)
abbrev pub LastAsk : Passing → Request → Passing → Request → Type 0
LastAsk v q u r =
    ((u ≡ v) × (r ≡ q))
    ⊎ (((d : Answer) × Asked v q d u × (waits_on d ≡ true) × (r ≡ Resume))
    ⊎ ((asked : Trace) × InBody v q asked u × (scalars : List ℤ) × (exit : Exit) × (r ≡ Complete scalars exit)))

-- the last ask of a call found no act left, or its answer stops the call (own)
pub record StoppedAsking (v : Passing) (q : Request) (w : Passing) : Type 0 where
  pub asker : Passing
  pub same : Stays v asker
  pub request : Request
  pub last : LastAsk v q asker request
  pub reason : WoreOut asker request w ⊎ ((d : Answer) × Asked asker request d w × (stops_at request d ≡ true))

-- why a request within a body stopped it, which was told this: no act was left, or its answer stops bodies (own)
abbrev pub StopsBody : Passing → Request → Answer → Passing → Type 0
StopsBody v q r w =
    (WoreOut v q w × (r ≡ Answers.Full)) ⊎ ((d : Answer) × Asked v q d w × (r ≡ told d) × (stops_bodies d ≡ true))

-- By this request a run was stopped that asked all this: what it asked before, the request, and behind it ends by stopped alone. (own)
pub record StoppedAt (u : Passing) (asked : Trace) : Type 0 where
  pub before : Trace
  pub asker : Passing
  pub went : Went u before asker
  pub request : Request
  pub answer : Answer
  pub after : Passing
  pub reason : StopsBody asker request answer after
  pub behind : Trace
  pub unwinds : Unwinds behind
  pub asked_is : asked ≡ before ++ (request, answer) ∷ behind

-- The call's body exited by stopped: so it, or a body inside it, was told behind what it had asked, and behind that come ends
-- by stopped alone. (own)
pub record StoppedInside (v : Passing) (q : Request) (w : Passing) : Type 0 where
  pub ended : EndedBy v q Exits.Stopped w
  pub before : Trace
  pub asker : Passing
  pub inside : InBody v q before asker
  pub same : Stays v asker
  pub request : Request
  pub answer : Answer
  pub after : Passing
  pub reason : StopsBody asker request answer after
  pub behind : Trace
  pub unwinds : Unwinds behind
  pub asked_is : ended.asked ≡ before ++ (request, answer) ∷ behind

-- The call's body was stopped by a request of its own, or of a body inside it, and left its actor in one of these: so its end isn't
-- asked. (own)
pub record LeftInside (v : Passing) (q : Request) (w : Passing) : Type 0 where
  pub asked : Trace
  pub inside : InBody v q asked w
  pub start : Passing
  pub same : Stays v start
  pub went : Went start asked w
  pub stopped : StoppedAt start asked

-- What is reached, by the pass's own last event that is no settle: a refusal is that very answer, by the list in force in what had been seen or
-- by a later one; values and exceptions are those of the end of the call's body, or of an answer that starts none. Misuse
-- is the answer to the request, and nothing is new. A call stops at its last ask, or by an answer to a request within its
-- body, whose end may not be asked then. (own)
abbrev pub Tied : Passing → Request → Reached → Passing → Type 0
Tied v q (Reaches.Refused rule line version) w =
    Answered v q (Words.Refused rule line version) w × (version_seen v.seen ≤ version)
Tied v q (Reaches.Returned values) w = Back v q values w
Tied v q (Reaches.Raised exception) w = (exit : Exit) × (reached_by exit ≡ Reaches.Raised exception) × EndedBy v q exit w
Tied v q Reaches.Misuse w = Asked v q Answers.Misuse w
Tied v q Reaches.Stopped w = StoppedAsking v q w ⊎ (StoppedInside v q w ⊎ LeftInside v q w)
