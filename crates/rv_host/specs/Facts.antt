-- The answers to calls, delays and resumes, from what they depend on (own).
use Rattle.std.specs.Prelude.{ℕ, Bool, false, ◌&&◌, not, Some, None, Option, List, ℤ, if◌then◌else◌}
use Rattle.rv_event.specs.declared.entry.Answer.{Answer}
use Rattle.rv_event.specs.declared.entry.Answer.TheVariants.{Started, Queued, Refused, Woken, Misuse, Halted, Busy, Waiting}
use Rattle.rv_event.specs.declared.entry.Rule.{Rule}
use Rattle.rv_event.specs.declared.entry.Rule.TheVariants as Rules
use Rattle.rv_history.specs.Due.{unless_refused}
use Rattle.rv_history.specs.Rules.{first_among, rules}
use Rattle.rv_host.specs.Decisions.{or_none}
use Rattle.rv_host.specs.declared.facts.CallFacts.{CallFacts}
use Rattle.rv_host.specs.declared.facts.SuspensionFacts.{SuspensionFacts}
use Rattle.rv_host.specs.declared.facts.DelayFacts.{DelayFacts}
use Rattle.rv_host.specs.declared.facts.ResumeFacts.{ResumeFacts}
use Rattle.rv_host.specs.declared.facts.ResumeFacts.TheVariants.{Nothing, HandedOver, Dropped, Waits}

-- whether a call of a protected operation, or a fired line, breaks a rule: a queue counts where the call would join it
abbrev pub breaks_as_call : CallFacts → Rule → Bool
breaks_as_call facts Rules.Grant = facts.denied
breaks_as_call facts Rules.Blocking = facts.blocking
breaks_as_call facts Rules.Reentry = facts.reentry
breaks_as_call facts Rules.Ceiling = facts.above
breaks_as_call facts Rules.Queue = (facts.barred && not facts.busy) && facts.full
breaks_as_call facts Rules.Waiter = false

-- whether a call of an operation of a suspension object does
abbrev pub breaks_as_suspension : SuspensionFacts → Rule → Bool
breaks_as_suspension facts Rules.Grant = facts.denied
breaks_as_suspension facts Rules.Blocking = facts.blocking
breaks_as_suspension facts Rules.Waiter = facts.waited
breaks_as_suspension facts rule = false

-- whether a delay does
abbrev pub breaks_as_delay : DelayFacts → Rule → Bool
breaks_as_delay facts Rules.Blocking = facts.blocking
breaks_as_delay facts rule = false

-- a call that no rule refuses is kept out, queued or started; the scalars are those of the object
abbrev pub let_in : CallFacts → Option (List ℤ) → Answer
let_in facts given = if facts.busy then Busy else (if facts.barred then Queued else Started (or_none given))

-- refused by the first rule that is broken, else this answer
abbrev pub unless_broken : (version line : ℕ) → (Rule → Bool) → Answer → Answer
unless_broken version line breaks answer = unless_refused version line (first_among breaks rules) answer

-- the scalars are those of the object that was handed over
abbrev pub resumed : Option (List ℤ) → ResumeFacts → Answer
resumed given Nothing = Misuse
resumed given HandedOver = Woken (Some (or_none given))
resumed given (Dropped line version) = Refused Rules.Grant line version
resumed given (Waits ready halted) = if ready then Woken None else (if halted then Halted else Waiting)
