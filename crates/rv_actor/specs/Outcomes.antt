-- What a request line comes to, and the line that tells it. (own)
use Rattle.std.specs.Prelude.{◌≡◌, ℕ, List, [], ◌∷◌, ◌++◌, codes, Option, Some, None}
use Rattle.std.specs.Fmt.{decimal}
use Rattle.rv_event.specs.Text.{exception_text, rule_number, values_text}
use Rattle.rv_event.specs.declared.entry.Request.{Request}
use Rattle.rv_event.specs.declared.entry.Request.TheVariants.{Call, DelayUntil, Clock, Quit}
use Rattle.rv_port.specs.declared.reached.Reached.{Reached}
use Rattle.rv_port.specs.declared.reached.Reached.TheVariants as Reaches
use Rattle.rv_port.specs.Ports.{Porting, PerformedBy}
use Rattle.rv_actor.specs.declared.outcome.Outcome.{Outcome}
use Rattle.rv_actor.specs.declared.outcome.Outcome.TheVariants as Outcomes
use Rattle.rv_actor.specs.declared.serving.Goes.{Goes}
use Rattle.rv_actor.specs.declared.serving.Goes.TheVariants.{On, Out}

-- a request is performed once by the task's port, and this is what it came to
abbrev pub Performs : Request → Porting → Outcome → Porting → Type 0
Performs request v outcome w = (reached : Reached) × PerformedBy v request reached w × (outcome ≡ Outcomes.Reached reached)

-- What a line asks is performed once, where a task may ask it: a call, a delay until, or the clock (9.5.1, 9.5.3, 9.6, D.8, D.10).
-- Else nothing is performed.
abbrev pub DoesAsked : Request → Porting → Outcome → Porting → Type 0
DoesAsked (Call object operation values) v outcome w = Performs (Call object operation values) v outcome w
DoesAsked (DelayUntil time) v outcome w = Performs (DelayUntil time) v outcome w
DoesAsked Clock v outcome w = Performs Clock v outcome w
DoesAsked Quit v outcome w = (w ≡ v) × (outcome ≡ Outcomes.Finished)
DoesAsked request v outcome w = (w ≡ v) × (outcome ≡ Outcomes.NotATasks)

-- the same of a line that may be no request, or may name what isn't loaded
abbrev pub Does : Option Request → Porting → Outcome → Porting → Type 0
Does (Some request) v outcome w = DoesAsked request v outcome w
Does None v outcome w = (w ≡ v) × (outcome ≡ Outcomes.Unread)

-- the words of what a performance came to
abbrev pub reached_text : Reached → List ℕ
reached_text (Reaches.Returned values) = codes "returned" ++ values_text values
reached_text (Reaches.Raised exception) = codes "raised " ++ exception_text exception
reached_text (Reaches.Refused rule line version) =
    codes "refused " ++ (decimal (rule_number rule) ++ (codes " line " ++ (decimal line ++ (codes " version " ++ decimal version))))
reached_text Reaches.Stopped = codes "stopped"
reached_text Reaches.Misuse = codes "misuse"

-- the words of what a line came to
abbrev pub outcome_text : Outcome → List ℕ
outcome_text (Outcomes.Reached reached) = reached_text reached
outcome_text Outcomes.Finished = codes "finished"
outcome_text Outcomes.Unread = codes "bad request: it is none, or names nothing that is loaded"
outcome_text Outcomes.NotATasks = codes "bad request: no task asks it"
outcome_text Outcomes.NoText = codes "bad request: it isn't UTF-8"

-- the line of these words
abbrev pub outcome_line : Outcome → List ℕ
outcome_line outcome = outcome_text outcome ++ 10 ∷ []

-- behind a stop, the task's own end and bytes that are no text no line is read
abbrev pub goes_behind : Outcome → Goes
goes_behind (Outcomes.Reached Reaches.Stopped) = Out
goes_behind (Outcomes.Reached reached) = On
goes_behind Outcomes.Finished = Out
goes_behind Outcomes.Unread = On
goes_behind Outcomes.NotATasks = On
goes_behind Outcomes.NoText = Out
