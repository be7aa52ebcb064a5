-- How the text of a task ended, and why. (own)
use Rattle.std.specs.Prelude.{◌≡◌, ◌⊎◌, ℕ, ◌-◌, ◌==◌, Bool, true, false, ◌&&◌, if◌then◌else◌, [], ◌∷◌, ◌++◌, List, codes, Option, Some, None}
use Rattle.std.specs.Fmt.{decimal}
use Rattle.std.proofs.Common.{subst}
use Rattle.rv_event.specs.declared.entry.Answer.{Answer}
use Rattle.rv_event.specs.declared.entry.Answer.TheVariants as Answers
use Rattle.rv_event.specs.declared.entry.Exit.{Exit}
use Rattle.rv_event.specs.declared.entry.Exit.TheVariants as Exits
use Rattle.rv_event.specs.declared.entry.Request.{Request}
use Rattle.rv_event.specs.declared.entry.Request.TheVariants.{Call, DelayUntil, Clock}
use Rattle.rv_event.specs.Text.{exception_text}
use Rattle.rv_code.specs.Bodies.{Body, UnitBodies}
use Rattle.rv_exec.specs.Bodies.{task_of}
use Rattle.rv_turn.specs.Passes.{IsWorn}
use Rattle.rv_port.specs.declared.ended.Course.{Course}
use Rattle.rv_port.specs.declared.ended.Ending.{Ending}
use Rattle.rv_port.specs.declared.ended.Ending.TheVariants as Endings
use Rattle.rv_behind.specs.Acting.{lent_view}
use Rattle.rv_behind.specs.declared.event.Lent.{Lent}
use Rattle.rv_port.specs.Bodies.{IsHad, marked}
use Rattle.rv_port.specs.Held.{held_by}
use Rattle.rv_port.specs.Texts.{TextBarred, TextLent, TextRuns}
use Rattle.rv_port.specs.Traces.{Passing, Trace, told, asks_on, Asked, WoreOut, SettlesBehind, Went}

-- how it is said
abbrev pub ending_text : Ending → List ℕ
ending_text Endings.Returned = codes "return"
ending_text (Endings.Raised exception) = codes "raise " ++ exception_text exception
ending_text Endings.Overrun = codes "overrun"
ending_text (Endings.BudgetPassed budget) = codes "budget " ++ decimal budget ++ codes " passed"
ending_text Endings.Full = codes "full"
ending_text Endings.Halted = codes "halted"
ending_text Endings.Misuse = codes "misuse"
ending_text Endings.Worn = codes "worn"
ending_text Endings.NoBodies = codes "no bodies"
ending_text Endings.LeftInBody = codes "left in a body"

-- One request of a text

-- how a text ends that is stopped by this answer, if it is
abbrev pub stop_of : Answer → Option Ending
stop_of Answers.Full = Some Endings.Full
stop_of Answers.Halted = Some Endings.Halted
stop_of Answers.Misuse = Some Endings.Misuse
stop_of answer = None

-- the first of two, where there is one
abbrev pub first_of : Option Ending → Option Ending → Option Ending
first_of (Some ending) other = Some ending
first_of None other = other

-- the requests that a body makes of its own: calls, delays and looks at the clock
abbrev pub is_own : Request → Bool
is_own (Call object operation values) = true
is_own (DelayUntil time) = true
is_own Clock = true
is_own request = false

-- how many requests a task's own body may still make behind one, before which the task held so many objects: while a body of
-- an operation runs it holds that object
abbrev pub unspent_behind : (held : ℕ) → Request → ℕ → ℕ
unspent_behind held q unspent = if (held == 0) && is_own q then unspent - 1 else unspent

-- a run of a text behind a request more, which stopped it so, or didn't: the first that stopped it counts
abbrev pub past : Course → (held : ℕ) → Request → Option Ending → Course
past c held q stop = record { stop = first_of c.stop stop; unspent = unspent_behind held q c.unspent }

-- a run that asked nothing yet
abbrev pub fresh : ℕ → Course
fresh budget = record { stop = None; unspent = budget }

-- one request of a text, which is told this, by the answer that it got or since no act was left; and the run behind it
abbrev pub TellsWhy : Course → Passing → Request → Answer → Course → Passing → Type 0
TellsWhy c v q r d w =
    ((answer : Answer) × (u : Passing) × Asked v q answer u × (asks_on answer ≡ false) × (r ≡ told answer) × SettlesBehind answer u w
    × (d ≡ past c (held_by v) q (stop_of answer)))
    ⊎ (WoreOut v q w × (r ≡ Answers.Full) × (d ≡ past c (held_by v) q (Some Endings.Worn)))

-- the pairs of a trace, one after another
abbrev pub RunsCourse : Course → Passing → Trace → Course → Passing → Type 0
RunsCourse c v [] d w = (w ≡ v) × (d ≡ c)
RunsCourse c v (x ∷ xs) d w = (e : Course) × (u : Passing) × TellsWhy c v x.0 x.1 e u × RunsCourse e u xs d w

pub course_both : (c e d : Course) (v u w : Passing) (xs ys : Trace) → RunsCourse c v xs e u → RunsCourse e u ys d w → RunsCourse c v (xs ++ ys) d w
course_both c e d v u w [] ys p q = subst (λ (z : Course × Passing). RunsCourse z.0 z.1 ys d w) (λ i. (p.1 i, p.0 i)) q
course_both c e d v u w (x ∷ xs) ys p q = (p.0, p.1, p.2, course_both p.0 e d p.1 u w xs ys p.3 q)

-- The end of a text

-- past its limits: where all requests of its budget were made it is by these, else by its steps
abbrev pub past_limits : (budget unspent : ℕ) → Ending
past_limits budget unspent = if unspent == 0 then Endings.BudgetPassed budget else Endings.Overrun

abbrev pub stop_or : Option Ending → Ending
stop_or (Some ending) = ending
stop_or None = Endings.Worn

abbrev pub ending_of : Exit → (budget : ℕ) → Course → Ending
ending_of (Exits.Return values) budget c = Endings.Returned
ending_of (Exits.Raise exception) budget c = Endings.Raised exception
ending_of Exits.Overrun budget c = past_limits budget c.unspent
ending_of Exits.Stopped budget c = stop_or c.stop

-- how a text ended that exited so, by its run: where it was stopped, by what stopped it first
abbrev pub EndsBy : Exit → (budget : ℕ) → Course → Ending → Type 0
EndsBy (Exits.Return values) budget c ending = ending ≡ Endings.Returned
EndsBy (Exits.Raise exception) budget c ending = ending ≡ Endings.Raised exception
EndsBy Exits.Overrun budget c ending = ending ≡ past_limits budget c.unspent
EndsBy Exits.Stopped budget c ending = c.stop ≡ Some ending

-- a task's own body ran, or it has none
abbrev pub OwnEnds : Option Body → (budget : ℕ) → Exit → Passing → Trace → Passing → Ending → Type 0
OwnEnds None budget exit v trace w ending = ending ≡ Endings.NoBodies
OwnEnds (Some body) budget exit v trace w ending = (c : Course) × RunsCourse (fresh budget) v trace c w × EndsBy exit budget c ending

-- the same by the bodies that were lent, or without
abbrev pub LentEnds : Option UnitBodies → (actor budget : ℕ) → Exit → Passing → Trace → Passing → Ending → Type 0
LentEnds None actor budget exit v trace w ending = ending ≡ Endings.NoBodies
LentEnds (Some bodies) actor budget exit v trace w ending = OwnEnds (task_of bodies actor) budget exit v trace w ending

-- One run of a task's text, and how it ended: where no act was left for the bodies, or the actor holds something, nothing ran;
-- else as its run says.
abbrev pub TextEnded : Passing → Bool → (budget : ℕ) → Exit → Ending → Passing → Bool → Type 0
TextEnded v mark budget exit ending w after =
    (IsWorn v w × (after ≡ mark) × (exit ≡ Exits.Stopped) × (ending ≡ Endings.Worn))
    ⊎ ((TextBarred v mark exit w after × (ending ≡ Endings.LeftInBody))
    ⊎ ((ran : TextLent v mark budget exit w after) × LentEnds ran.bodies v.actor budget exit ran.lent ran.trace w ending))

-- The same before it is known that a text which was stopped was so by one of its requests: what its run is told to end by. (own)

abbrev pub own_ending : Option Body → Exit → (budget : ℕ) → Course → Ending
own_ending None exit budget c = Endings.NoBodies
own_ending (Some body) exit budget c = ending_of exit budget c

abbrev pub OwnGoes : Option Body → (budget : ℕ) → Exit → Passing → Trace → Passing → Ending → Type 0
OwnGoes task budget exit v trace w ending = (c : Course) × RunsCourse (fresh budget) v trace c w × (ending ≡ own_ending task exit budget c)

abbrev pub LentGoes : Option UnitBodies → (actor budget : ℕ) → Exit → Passing → Trace → Passing → Ending → Type 0
LentGoes None actor budget exit v trace w ending = ending ≡ Endings.NoBodies
LentGoes (Some bodies) actor budget exit v trace w ending = OwnGoes (task_of bodies actor) budget exit v trace w ending

-- The run of a text by the bodies that were lent, or without, where they couldn't be had, which is marked. (own)
pub record TextGoes (lent : Option Lent) (v : Passing) (mark : Bool) (budget : ℕ) (exit : Exit) (ending : Ending) (w : Passing) (after : Bool) : Type 0 where
  pub had : Option Lent
  pub had_is : IsHad lent had
  pub trace : Trace
  pub runs : TextRuns (lent_view had) v.actor budget trace exit
  pub went : Went v trace w
  pub goes : LentGoes (lent_view had) v.actor budget exit v trace w ending
  pub marked_is : after ≡ marked mark (lent_view had)
