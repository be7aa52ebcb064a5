-- The refused entries of a history, as a review prints them (own).
use Rattle.std.specs.Prelude.{ℕ, suc, ◌==◌, ◌&&◌, Bool, if◌then◌else◌, List, [], ◌∷◌, ◌++◌, length, codes, Option, Some, None}
use Rattle.std.specs.Fmt.{decimal}
use Rattle.rv_access.specs.Lines.{line_at}
use Rattle.rv_access.specs.Text.{line_text}
use Rattle.rv_access.specs.Words.{Words}
use Rattle.rv_shape.specs.Shape.{Shape}
use Rattle.rv_shape.specs.Catalogue.{Target, Nowhere, target, who}
use Rattle.rv_shape.specs.Printed.{actor_text, target_text}
use Rattle.rv_event.specs.Past.{clock, last_queued, next_of}
use Rattle.rv_event.specs.Text.{request_text}
use Rattle.rv_event.specs.declared.entry.Body.{Body}
use Rattle.rv_event.specs.declared.entry.Entry.{Entry}
use Rattle.rv_event.specs.declared.entry.Entry.TheVariants.{Asked}
use Rattle.rv_event.specs.declared.entry.Next.{Next}
use Rattle.rv_event.specs.declared.entry.Next.TheVariants.{Dropped}
use Rattle.rv_event.specs.declared.entry.Recorded.TheVariants.{Refused}
use Rattle.rv_event.specs.declared.entry.Request.{Request}
use Rattle.rv_event.specs.declared.entry.Request.TheVariants.{Call, Fire, Resume}
use Rattle.rv_event.specs.declared.entry.Rule.{Rule}
use Rattle.rv_event.specs.declared.entry.Rule.TheVariants.{Grant, Blocking, Reentry, Ceiling, Queue, Waiter}
use Rattle.rv_history.specs.declared.limits.Limits.{Limits}
use Rattle.rv_history.specs.History.{History, force, last_list}
use Rattle.rv_history.specs.Journal.{lists_before, shapes_before}
use Rattle.rv_history.specs.Rules.{aim, decided}
use Rattle.rv_history.specs.Subject.{subject}
use Rattle.rv_refused.specs.Filters.{FilterText, is_since, takes_by, takes_of}

-- What was asked

-- what a queued call is a call of
abbrev pub target_in : List Shape → Option Body → Target
target_in shapes None = Nowhere
target_in shapes (Some call) = target shapes call.object call.operation

-- what a request calls: a fired line its handler, and a resume what its queued call called
abbrev pub called : History → ℕ → Request → Target
called h actor Resume = target_in h.shapes (last_queued actor h.past)
called h actor request = (aim h.shapes actor request).1

-- what was asked, without the values of a call, where this is what was called
abbrev pub asked_text : List Shape → Request → Target → List ℕ
asked_text shapes (Call object operation values) target = codes "call " ++ target_text target
asked_text shapes Fire target = codes "fire " ++ target_text target
asked_text shapes Resume target = codes "resume " ++ target_text target
asked_text shapes request target = request_text shapes request

-- Why it was refused

-- the words of a line of a list, if there is one
abbrev pub line_words : Option Words → List ℕ
line_words None = codes "no line"
line_words (Some line) = line_text line

-- the words of the line that dropped an actor, of the list that was in force
abbrev pub dropped_by : ℕ → Next → List Words → List ℕ → List ℕ
dropped_by actor (Dropped named line) list before = if named == actor then line_words (line_at list line) else before
dropped_by actor next list before = before

-- the words of the line by which an actor was last dropped from a queue, as it stood in force then
abbrev pub dropping_words : ℕ → List Entry → List (List Words) → List ℕ
dropping_words actor [] lists = []
dropping_words actor (entry ∷ past) lists =
    dropped_by actor (next_of entry) (last_list lists) (dropping_words actor past (lists_before entry lists))

-- the words of the line that decides: of a resume the one that dropped its call, else the one that decides the call in the
-- list in force
abbrev pub deciding_words : History → ℕ → Request → List ℕ
deciding_words h actor Resume = dropping_words actor h.past h.lists
deciding_words h actor request = line_words (line_at (force h) (decided h (subject h actor) (aim h.shapes actor request).1))

-- the words of the line of the number that a refusal tells: of a resume of the one that dropped its call
abbrev pub told_words : History → ℕ → Request → ℕ → List ℕ
told_words h actor Resume number = dropping_words actor h.past h.lists
told_words h actor request number = line_words (line_at (force h) number)

-- the rule in words; of the grant also the line that decides
abbrev pub cause_text : Rule → List ℕ → List ℕ
cause_text Grant line = codes "not granted: " ++ line
cause_text Blocking line = codes "might block inside a protected action"
cause_text Reentry line = codes "holds the object already"
cause_text Ceiling line = codes "above the ceiling"
cause_text Queue line = codes "the queue is full"
cause_text Waiter line = codes "another task waits there"

-- Lines

-- a line: the number, the tick, who asked what, and why it was refused
abbrev pub line_of : History → ℕ → ℕ → Request → Target → List ℕ → List ℕ
line_of h number actor request target cause =
    decimal number ++ (codes " tick " ++ (decimal (clock h.past) ++ 32 ∷ (actor_text (who h.shapes actor)
    ++ 32 ∷ (asked_text h.shapes request target ++ (codes " -> " ++ (cause ++ 10 ∷ []))))))

-- that of a request that was refused behind a history
abbrev pub refusal_line : History → ℕ → Request → Rule → List ℕ
refusal_line h actor request rule =
    line_of h (suc (length h.past)) actor request (called h actor request) (cause_text rule (deciding_words h actor request))

-- a filter takes a request behind a history
abbrev pub takes : FilterText → History → ℕ → Request → Bool
takes filter h actor request =
    is_since filter.since (suc (length h.past)) (clock h.past) && takes_by filter.by (who h.shapes actor)
    && takes_of filter.of (called h actor request)

-- the line of an entry behind a history, where it was refused and is taken
abbrev pub refusal_of : FilterText → History → Entry → List ℕ
refusal_of filter h (Asked actor request (Refused rule line version)) =
    if takes filter h actor request then refusal_line h actor request rule else []
refusal_of filter h entry = []

-- the history before its last entry, of its parts
abbrev pub before_last : Limits → Entry → List Entry → List Shape → List (List Words) → History
before_last limits entry past shapes lists =
    record { limits = limits; past = past; shapes = shapes_before entry shapes; lists = lists_before entry lists }

-- the lines of the refused entries that a filter takes, in the order of the entries, which come the newest first
abbrev pub refusals_in : FilterText → Limits → List Entry → List Shape → List (List Words) → List ℕ
refusals_in filter limits [] shapes lists = []
refusals_in filter limits (entry ∷ past) shapes lists =
    refusals_in filter limits past (shapes_before entry shapes) (lists_before entry lists)
    ++ refusal_of filter (before_last limits entry past shapes lists) entry

-- those of a history
abbrev pub refusals_text : FilterText → History → List ℕ
refusals_text filter h = refusals_in filter h.limits h.past h.shapes h.lists

-- the line of a request that is told to be refused by the line of this number
abbrev pub told_line : History → ℕ → ℕ → Request → Target → Rule → ℕ → List ℕ
told_line h number actor request target rule line =
    line_of h number actor request target (cause_text rule (told_words h actor request line))
