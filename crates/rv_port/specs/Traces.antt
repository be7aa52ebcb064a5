-- What a port's asks did: a trace of asks and replies, between two states of its pass. (own)
use Rattle.std.specs.Prelude.{◌≡◌, ◌⊎◌, ℕ, ◌+◌, ◌≤◌, Bool, true, false, ◌&&◌, ◌||◌, List, [], ◌∷◌, ◌++◌, length, Option, Some, None, is_some}
use Rattle.std.specs.List.{list_any}
use Rattle.rv_event.specs.Past.{archives}
use Rattle.rv_event.specs.Recorded.{recorded}
use Rattle.rv_event.specs.declared.entry.Next.TheVariants.{Dropped}
use Rattle.rv_event.specs.declared.entry.Request.{Request}
use Rattle.rv_event.specs.declared.entry.Request.TheVariants.{Settle}
use Rattle.rv_event.specs.declared.entry.Answer.{Answer}
use Rattle.rv_event.specs.declared.entry.Answer.TheVariants as Answers
use Rattle.rv_event.specs.declared.entry.Recorded.{Recorded}
use Rattle.rv_history.specs.declared.limits.Limits.{Limits}
use Rattle.rv_history.specs.Allowance.{may_spend}
use Rattle.rv_history.specs.Limits.{limits_of}
use Rattle.rv_history.specs.Due.{out}
use Rattle.rv_history.specs.Legal.{Legal}
use Rattle.rv_turn.specs.Histories.{mine, StartsWith}
use Rattle.rv_accounts.specs.Seen.{but_settles}
use Rattle.rv_meant.specs.Settles.{NeverSettles}
use Rattle.rv_turn.specs.Passes.{Known}
use Rattle.rv_behind.specs.Events.{by, history_at, catalogue_of, mark}
use Rattle.rv_behind.specs.Acting.{grown, begun_by, IsLent, lent_view}
use Rattle.rv_behind.specs.declared.event.Lent.{Lent}
use Rattle.rv_behind.specs.declared.event.Begun.{Begun}
use Rattle.rv_behind.specs.declared.event.Event.{Event}
use Rattle.rv_behind.specs.declared.event.Event.TheVariants.{Asks}

-- what a port knows (own)
abbrev pub Passing : Type 0
Passing = Known Event Limits

-- the limits that a pass knows, else those of no room (own)
abbrev pub limits_in : Option Limits → Limits
limits_in None = limits_of 0
limits_in (Some limits) = limits

-- what a body is told of an answer: Full in place of Misuse (own)
abbrev pub told : Answer → Answer
told Answers.Misuse = Answers.Full
told r = r

-- the port makes the request again (own)
abbrev pub asks_on : Answer → Bool
asks_on Answers.Busy = true
asks_on Answers.Waiting = true
asks_on r = false

-- The journal lasts: its first entries were given up once, so that there is room for others, and will be again. (own)
abbrev pub lasts : List Event → Bool
lasts log = list_any (λ e. is_some (archives (mark e))) log

abbrev pub is_full : Answer → Bool
is_full Answers.Full = true
is_full r = false

-- The port may make the request again that was answered so on this history: it waits for others, or for room in a journal that
-- lasts. Where the unit that it is charged to has spent its allowance it never does. (own)
abbrev pub comes_again : Limits → List Event → ℕ → Request → Answer → Bool
comes_again limits log a q r = asks_on r || (is_full r && (lasts log && may_spend (history_at limits log) a q))

-- it does, where it knows so of the journal (own)
abbrev pub asked_again : Bool → Answer → Bool
asked_again lasting r = asks_on r || (is_full r && lasting)

-- no unit has an allowance (own)
abbrev pub IsUnbounded : Option Limits → Type 0
IsUnbounded about = (limits_in about).allowance ≡ None

-- what a port has to know of the journal to ask again at Full (own)
abbrev pub IsKnown : Passing → Type 0
IsKnown v = (lasts v.seen ≡ true) × IsUnbounded v.about

-- a body is never told these (own)
abbrev pub IsTold : Answer → Type 0
IsTold Answers.Misuse = ⊥
IsTold Answers.Busy = ⊥
IsTold Answers.Waiting = ⊥
IsTold r = Unit {0}

abbrev pub Trace : Type 0
Trace = List (Request × Answer)

abbrev pub noted_if : Option Recorded → ℕ → Request → List Event → List Event
noted_if None a q es = es
noted_if (Some word) a q es = Asks a q word ∷ es

-- the events of the recorded pairs (own)
abbrev pub noted : ℕ → Trace → List Event
noted a [] = []
noted a (x ∷ xs) = noted_if (recorded x.1) a x.0 (noted a xs)

-- The reply is due on a legal history, which begins with all that was seen, and has of the actor's events these alone, and
-- settles. What is seen later begins with that history, and with the event where there is one. (own)
pub record IsAnswered (limits : Limits) (a : ℕ) (seen own later : List Event) (q : Request) (r : Answer) : Type 0 where
  pub at : List Event
  pub from : StartsWith at seen
  pub to : StartsWith later (grown at a q r)
  pub own_is : but_settles (mine by a at) ≡ own
  pub legal : Legal (history_at limits at)
  pub due_is : r ≡ told (out (history_at limits at) a q)

-- No act is left, and so no event follows. (own)
abbrev pub IsWorn : ℕ → ℕ → Answer → Trace → Type 0
IsWorn a left r rest = (r ≡ Answers.Full) × (left ≡ 0) × (noted a rest ≡ [])

-- each pair of a trace, from a pass's events so far, without the settles (own)
abbrev pub EachAnswered : Limits → ℕ → List Event → List Event → ℕ → List Event → Trace → Type 0
EachAnswered limits a seen later left own [] = Unit {0}
EachAnswered limits a seen later left own (x ∷ xs) =
    (IsAnswered limits a seen own later x.0 x.1 ⊎ IsWorn a left x.1 xs) × EachAnswered limits a seen later left (own ++ noted a (x ∷ [])) xs

-- On these legal histories, of which each begins with all that was seen before it, Busy or Waiting was due, or Full in a journal
-- that lasts. The last is seen then. (own)
abbrev pub EachInVain : Limits → ℕ → Request → List Event → List (List Event) → List Event → Type 0
EachInVain limits a q seen [] last = last ≡ seen
EachInVain limits a q seen (at ∷ more) last =
    StartsWith at seen × Legal (history_at limits at) × (comes_again limits at a q (out (history_at limits at) a q) ≡ true) × EachInVain limits a q at more last

-- A request was made in vain, so many times, each of which took one act: the answer was Busy or Waiting, or Full in a journal that
-- lasts. (own)
pub record InVain (v : Passing) (q : Request) (w : Passing) : Type 0 where
  pub times : List (List Event)
  pub each : EachInVain (limits_in v.about) v.actor q v.seen times w.seen
  pub acts : w.left + length times ≡ v.left
  pub same : w ≡ record v { seen = w.seen; left = w.left }

-- One request, with the answer itself: the due one on a legal history that begins with all that was seen, and on which the
-- actor's events are the pass's own. It took one act, after those that were in vain. (own)
pub record Asked (v : Passing) (q : Request) (r : Answer) (w : Passing) : Type 0 where
  pub before : Passing
  pub in_vain : InVain v q before
  pub at : List Event
  pub later : StartsWith at before.seen
  pub from : StartsWith at v.seen
  pub owned : mine by v.actor at ≡ v.base ++ v.own
  pub legal : Legal (history_at (limits_in v.about) at)
  pub due_is : r ≡ out (history_at (limits_in v.about) at) v.actor q
  pub seen_is : w.seen ≡ grown at v.actor q r
  pub own_is : w.own ≡ v.own ++ noted v.actor ((q, r) ∷ [])
  pub owns : mine by w.actor w.seen ≡ w.base ++ w.own
  pub act : w.left + 1 ≡ before.left
  pub same : w ≡ record v { seen = w.seen; own = w.own; left = w.left }

-- no act was left for a request (own)
abbrev pub WoreOut : Passing → Request → Passing → Type 0
WoreOut v q w = InVain v q w × (w.left ≡ 0)

-- the answer to an end, or to a settle, is that a queued caller was dropped: others may wait behind it (9.5.3, own)
abbrev pub drops : Answer → Bool
drops (Answers.Done (Dropped actor line)) = true
drops r = false

-- Settles, with these answers: one behind another while a caller is dropped, unless no act is left (own)
abbrev pub SettledBy : (is_dropped : Bool) → List Answer → Passing → Passing → Type 0
SettledBy false [] v w = w ≡ v
SettledBy false (r ∷ rs) v w = ⊥
SettledBy true [] v w = WoreOut v Settle w
SettledBy true (r ∷ rs) v w = (u : Passing) × Asked v Settle r u × SettledBy (drops r) rs u w

-- what a port asks by itself: only where a caller was dropped, and then until the object is settled (own)
abbrev pub SettlesIf : (is_dropped : Bool) → Passing → Passing → Type 0
SettlesIf is_dropped v w = (answers : List Answer) × SettledBy is_dropped answers v w

-- the same behind an answer (own)
abbrev pub SettlesBehind : Answer → Passing → Passing → Type 0
SettlesBehind r v w = SettlesIf (drops r) v w

-- a body is told an answer, behind which the port settles; or Full where no act is left (own)
abbrev pub Tells : Passing → Request → Answer → Passing → Type 0
Tells v q r w =
    ((d : Answer) × (u : Passing) × Asked v q d u × (asks_on d ≡ false) × (r ≡ told d) × SettlesBehind d u w)
    ⊎ (WoreOut v q w × (r ≡ Answers.Full))

-- the pairs of a trace, one after another, and nothing else but the settles behind ends (own)
abbrev pub Steps : Passing → Trace → Passing → Type 0
Steps v [] w = w ≡ v
Steps v (x ∷ xs) w = (u : Passing) × Tells v x.0 x.1 u × Steps u xs w

-- A pass's own events have grown: without the settles, by the events of these recorded pairs. Each takes an act. (own)
pub record GrewBy (v : Passing) (xs : Trace) (w : Passing) : Type 0 where
  pub more : List Event
  pub own_is : w.own ≡ v.own ++ more
  pub pairs : but_settles more ≡ noted v.actor xs
  pub acts : w.left + length more ≤ v.left

-- The events of the recorded pairs, of which none is a settle, and of the settles behind ends are the growth of the pass's own,
-- and acts left never grow. (own)
pub record Went (v : Passing) (xs : Trace) (w : Passing) : Type 0 where
  pub later : StartsWith w.seen v.seen
  pub asks : NeverSettles xs
  pub grew : GrewBy v xs w
  pub each : EachAnswered (limits_in v.about) v.actor v.seen w.seen w.left (but_settles (v.base ++ v.own)) xs
  pub steps : Steps v xs w
  pub same : w ≡ record v { seen = w.seen; own = w.own; left = w.left }

-- one request, with the operation whose body the answer starts, and the bodies that it brings (own)
pub record Replied (v : Passing) (q : Request) (r : Answer) (begun : Begun) (lent : Option Lent) (w : Passing) : Type 0 where
  pub asked : Asked v q r w
  pub lent_is : IsLent asked.at (lent_view lent)
  pub begun_is : begun ≡ begun_by (catalogue_of asked.at) v.actor q r

-- the same, asked once: none was in vain before (own)
abbrev pub RepliedOnce : Passing → Request → Answer → Begun → Option Lent → Passing → Type 0
RepliedOnce v q r begun lent w = (x : Replied v q r begun lent w) × (x.asked.in_vain.times ≡ [])

-- the same, asked again while the answer was Busy or Waiting, and where it was Full in a journal that lasts (own)
abbrev pub Settled : Passing → Request → Answer → Begun → Option Lent → Passing → Type 0
Settled v q r begun lent w = Replied v q r begun lent w × (asks_on r ≡ false)
