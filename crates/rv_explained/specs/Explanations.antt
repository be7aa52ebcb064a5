-- Why an entry was answered as it was, and what became of it, as a review prints it (own).
use Rattle.std.specs.Prelude.{ℕ, suc, ◌-◌, ◌==◌, nat_lt, nat_le, ◌&&◌, Bool, true, false, if◌then◌else◌, List, [], ◌∷◌, ◌++◌, length, max, codes, Option, Some, None}
use Rattle.std.specs.Fmt.{decimal}
use Rattle.rv_access.specs.Lines.{line_at}
use Rattle.rv_access.specs.Text.{list_text}
use Rattle.rv_access.specs.Words.{Words}
use Rattle.rv_shape.specs.Catalogue.{Target, ceiling, handler, target, who}
use Rattle.rv_shape.specs.Printed.{actor_text, target_text}
use Rattle.rv_shape.specs.Shape.{Shape}
use Rattle.rv_event.specs.Past.{clock, fired, last_queued, next_of, waiter}
use Rattle.rv_event.specs.Text.{entry_line}
use Rattle.rv_event.specs.declared.entry.Body.{Body}
use Rattle.rv_event.specs.declared.entry.Entry.{Entry}
use Rattle.rv_event.specs.declared.entry.Entry.TheVariants.{Asked}
use Rattle.rv_event.specs.declared.entry.Next.{Next}
use Rattle.rv_event.specs.declared.entry.Next.TheVariants.{Nothing, HandedTo, Dropped}
use Rattle.rv_event.specs.declared.entry.Recorded.{Recorded}
use Rattle.rv_event.specs.declared.entry.Recorded.TheVariants.{Started, Queued, Refused, Suspended, Delayed, Woken}
use Rattle.rv_event.specs.declared.entry.Request.{Request}
use Rattle.rv_event.specs.declared.entry.Request.TheVariants.{Call, Fire, Resume}
use Rattle.rv_event.specs.declared.entry.Rule.{Rule}
use Rattle.rv_event.specs.declared.entry.Rule.TheVariants.{Grant, Blocking, Reentry, Ceiling, Queue, Waiter}
use Rattle.rv_history.specs.declared.limits.Limits.{Limits}
use Rattle.rv_history.specs.History.{History, force, last_list, version}
use Rattle.rv_history.specs.Journal.{last_unit, lists_before, shapes_before}
use Rattle.rv_history.specs.Rules.{aim}
use Rattle.rv_history.specs.Subject.{active, subject}
use Rattle.rv_waiting.specs.Queues.{callers}
use Rattle.rv_grants.specs.Grants.{decision_text}
use Rattle.rv_refused.specs.Refusals.{before_last, dropping_words, line_words}
use Rattle.rv_asked.specs.Asked.{line_by}
use Rattle.rv_lasting.specs.Lines.{end_text}
use Rattle.rv_lasting.specs.declared.track.Begun.{Begun}
use Rattle.rv_waits.specs.Lasting.{Waits, Bodies, end_of, lasting}
use Rattle.rv_explained.specs.Ties.{drop_entry, drop_list, list_since}
use Rattle.rv_explained.specs.Words.{force_text, rule_text, since_text}

-- The clock (D.8), and the list in force

abbrev pub tick_line : History → List ℕ
tick_line h =
    codes "tick " ++ (decimal (clock h.past) ++ (codes ", " ++ (force_text (version h) (list_since h.past) ++ 10 ∷ [])))

-- Rule 1

-- the call that a request makes, if it makes one: a fired line calls its handler (C.3)
abbrev pub call_of : List Shape → ℕ → Request → Option Body
call_of shapes actor (Call object operation values) = Some (record { actor = actor; object = object; operation = operation })
call_of shapes actor Fire = fired actor (handler shapes (actor - 1))
call_of shapes actor request = None

-- what the line that decides a call says of it, and for whom it is asked
abbrev pub decided_line : History → Body → List ℕ
decided_line h call =
    codes "rule 1 (own): " ++ (decision_text (line_by (force h) h call) ++ (codes ", for " ++ (subject h call.actor ++ 10 ∷ [])))

abbrev pub decision_line : History → Option Body → List ℕ
decision_line h None = []
decision_line h (Some call) = decided_line h call

-- a queued call isn't granted any more, by a line of the list that this entry brought
abbrev pub denied : List ℕ → ℕ → List ℕ
denied words number = codes "rule 1 (own): not granted: " ++ (words ++ (codes ", " ++ since_text number))

-- The other rules

-- a body that is under way (9.5.1)
abbrev pub body_line : List Shape → Begun → List ℕ
body_line shapes it =
    codes "held by " ++ (actor_text (who shapes it.call.actor) ++ (codes ": " ++ (target_text (target shapes it.call.object it.call.operation)
    ++ (codes ", since entry " ++ (decimal it.number ++ 10 ∷ [])))))

-- those that an actor is in, the innermost first
abbrev pub held_text : List Shape → ℕ → List Begun → List ℕ
held_text shapes actor [] = []
held_text shapes actor (it ∷ bodies) =
    (if it.call.actor == actor then body_line shapes it else []) ++ held_text shapes actor bodies

-- the greatest of a base priority and the ceilings of the objects that an actor holds by these bodies (D.3)
abbrev pub priority_by : List Shape → ℕ → ℕ → List Begun → ℕ
priority_by shapes base actor [] = base
priority_by shapes base actor (it ∷ bodies) =
    if it.call.actor == actor then max (ceiling shapes it.call.object) (priority_by shapes base actor bodies)
    else priority_by shapes base actor bodies

-- the two priorities
abbrev pub priorities_line : History → ℕ → ℕ → List ℕ
priorities_line h actor object =
    codes "active priority " ++ (decimal (active h actor) ++ (codes ", ceiling " ++ (decimal (ceiling h.shapes object) ++ 10 ∷ [])))

-- actors one behind another, with this mark before the first, and commas between them
abbrev pub actor_names : List Shape → List ℕ → List ℕ → List ℕ
actor_names shapes mark [] = []
actor_names shapes mark (actor ∷ actors) = (mark ++ actor_text (who shapes actor)) ++ actor_names shapes (codes ", ") actors

-- who waits in the queue of an object, the one that waits longest first
abbrev pub queue_line : History → ℕ → List ℕ
queue_line h object = actor_names h.shapes (codes "in the queue: ") (callers object h.past) ++ 10 ∷ []

-- who waits on a suspension object
abbrev pub waiter_line : List Shape → Option ℕ → List ℕ
waiter_line shapes None = []
waiter_line shapes (Some actor) = codes "waiting there: " ++ (actor_text (who shapes actor) ++ 10 ∷ [])

-- what stands against a request that calls this object, by a rule
abbrev pub against : History → ℕ → ℕ → Rule → List ℕ
against h actor object Grant = []
against h actor object Blocking = held_text h.shapes actor (lasting Bodies h.shapes h.past)
against h actor object Reentry = held_text h.shapes actor (lasting Bodies h.shapes h.past)
against h actor object Ceiling = priorities_line h actor object
against h actor object Queue = queue_line h object
against h actor object Waiter = waiter_line h.shapes (waiter object h.past)

-- the rule by which a request was refused; the first is told by the line that decides
abbrev pub broken_rule : Rule → List ℕ
broken_rule Grant = []
broken_rule rule = rule_text rule

-- a resume is refused where its queued call was dropped: by which line, and in which entry
abbrev pub dropped_line : ℕ → List Entry → List (List Words) → List ℕ
dropped_line actor past lists =
    denied (dropping_words actor past lists) (drop_list actor past)
    ++ (codes ", when entry " ++ (decimal (drop_entry actor past) ++ (codes " dropped its call" ++ 10 ∷ [])))

-- a request breaks a rule
abbrev pub broken_text : History → ℕ → Request → Rule → List ℕ
broken_text h actor request rule = broken_rule rule ++ against h actor (aim h.shapes actor request).0 rule

-- the smallest line that grants a call of this, behind all others: it names the one subject and the one operation
abbrev pub letting_text : List ℕ → Target → List ℕ
letting_text subject called =
    codes "the smallest line that would have let it in, which is no advice: allow " ++ (subject ++ 32 ∷ (target_text called ++ 10 ∷ []))

abbrev pub letting_line : History → Option Body → List ℕ
letting_line h None = []
letting_line h (Some call) = letting_text (subject h call.actor) (target h.shapes call.object call.operation)

-- of a request that the first rule refuses
abbrev pub letting : History → ℕ → Request → Rule → List ℕ
letting h actor request Grant = letting_line h (call_of h.shapes actor request)
letting h actor request rule = []

-- why a resume was refused
abbrev pub refused_resume : History → ℕ → List ℕ
refused_resume h actor = dropped_line actor h.past h.lists ++ letting_line h (last_queued actor h.past)

-- and another request
abbrev pub refused_request : History → ℕ → Request → Rule → List ℕ
refused_request h actor request rule = broken_text h actor request rule ++ letting h actor request rule

-- why a request was refused
abbrev pub refused_text : History → ℕ → Request → Rule → List ℕ
refused_text h actor Resume rule = refused_resume h actor
refused_text h actor request rule = refused_request h actor request rule

-- What else is answered

-- what an answer says
abbrev pub answer_line : Recorded → List ℕ
answer_line Started = codes "its body begins (9.5.1)" ++ 10 ∷ []
answer_line Queued = codes "its barrier is closed: it waits in the queue (9.5.3)" ++ 10 ∷ []
answer_line Suspended = codes "the state is False: it waits for a Set_True (D.10)" ++ 10 ∷ []
answer_line Delayed = codes "its time hasn't come: it waits (9.6)" ++ 10 ∷ []
answer_line Woken = codes "what it waited for has come: the object (9.5.3), a Set_True (D.10) or its time (9.6)" ++ 10 ∷ []
answer_line word = []

-- why a request was answered so
abbrev pub reason : History → ℕ → Request → Recorded → List ℕ
reason h actor request (Refused rule line version) = refused_text h actor request rule
reason h actor request word = answer_line word

-- What an entry ends

-- so long ago, since what began; and then
abbrev pub after_text : History → Begun → List ℕ → List ℕ
after_text h it more = codes ", after " ++ (decimal (clock h.past - it.tick) ++ (codes " ticks" ++ more))

-- the body that it ends (9.5.1)
abbrev pub ended_body : History → Option Begun → List ℕ
ended_body h None = []
ended_body h (Some it) =
    codes "it ends the body of " ++ (target_text (target h.shapes it.call.object it.call.operation)
    ++ (codes " that began in entry " ++ (decimal it.number ++ after_text h it (codes " (9.5.1)" ++ 10 ∷ []))))

-- how it ends a wait, and by which section of the standard
abbrev pub freeing : Next → List ℕ
freeing Nothing = codes "it releases "
freeing (HandedTo actor) = codes "it hands the object over to "
freeing (Dropped actor line) = codes "it drops "

abbrev pub freeing_section : Next → List ℕ
freeing_section Nothing = codes " (D.10)"
freeing_section (HandedTo actor) = codes " (9.5.3)"
freeing_section (Dropped actor line) = codes " (own)"

-- by which line of the list in force it drops a caller, if it drops one
abbrev pub dropping_line : History → Next → List ℕ
dropping_line h (Dropped actor line) = denied (line_words (line_at (force h) line)) (list_since h.past) ++ 10 ∷ []
dropping_line h next = []

-- whose wait it ends
abbrev pub freed_line : History → Next → Begun → List ℕ
freed_line h next it =
    freeing next ++ (actor_text (who h.shapes it.call.actor) ++ (codes ", who called in entry " ++ (decimal it.number
    ++ after_text h it (freeing_section next ++ 10 ∷ []))))

abbrev pub ended_wait : History → Next → Option Begun → List ℕ
ended_wait h next None = []
ended_wait h next (Some it) = freed_line h next it ++ dropping_line h next

-- what it ends, where that is this body and this wait
abbrev pub ends_by : History → Next → Option Begun → Option Begun → List ℕ
ends_by h next body wait = ended_body h body ++ ended_wait h next wait

-- The entry that is asked about, behind the history before it

-- why a request was answered so, where it ends this body and this wait
abbrev pub why_by : History → ℕ → Request → Recorded → Option Begun → Option Begun → List ℕ
why_by h actor request word body wait =
    decision_line h (call_of h.shapes actor request)
    ++ (reason h actor request word ++ ends_by h (next_of (Asked actor request word)) body wait)

abbrev pub why : History → Entry → List ℕ
why h (Asked actor request word) =
    why_by h actor request word (end_of Bodies h.shapes h.past (Asked actor request word)) (end_of Waits h.shapes h.past (Asked actor request word))
why h entry = []

abbrev pub at_entry : History → Entry → List ℕ → List ℕ → List ℕ
at_entry h entry unit list = entry_line h.shapes (suc (length h.past)) entry unit list ++ (tick_line h ++ why h entry)

-- A later entry

-- when, how long after its begin, and by which section
abbrev pub when_text : History → Begun → List ℕ → List ℕ
when_text h it section = codes " at tick " ++ (decimal (clock h.past) ++ after_text h it (section ++ (codes ":" ++ 10 ∷ [])))

-- the entry of this number, whose line this is, ends the wait of the one that is asked about
abbrev pub later_wait : ℕ → History → ℕ → Next → List ℕ → Option Begun → List ℕ
later_wait asked h number next line None = []
later_wait asked h number next line (Some it) =
    if it.number == asked
    then end_text next number ++ (when_text h it (freeing_section next) ++ (line ++ dropping_line h next))
    else []

-- which entry ends the body that another began
abbrev pub body_end_text : ℕ → List ℕ
body_end_text number = codes "the body that it began ended in entry " ++ decimal number

-- it ends the body that the one that is asked about began
abbrev pub later_body : ℕ → History → ℕ → List ℕ → Option Begun → List ℕ
later_body asked h number line None = []
later_body asked h number line (Some it) =
    if it.number == asked
    then body_end_text number ++ (when_text h it (codes " (9.5.1)") ++ line)
    else []

-- what it ends of that
abbrev pub later : ℕ → History → Entry → List ℕ → List ℕ
later asked h entry line =
    later_wait asked h (suc (length h.past)) (next_of entry) line (end_of Waits h.shapes h.past entry)
    ++ later_body asked h (suc (length h.past)) line (end_of Bodies h.shapes h.past entry)

-- The explanation

-- what an entry behind a history says of the entry of a number
abbrev pub says_of : ℕ → History → Entry → List ℕ → List ℕ → List ℕ
says_of number h entry unit list =
    if number == suc (length h.past) then at_entry h entry unit list
    else later number h entry (entry_line h.shapes (suc (length h.past)) entry unit list)

-- what these entries say of it, in their order; they come the newest first
abbrev pub said_in : ℕ → Limits → List Entry → List Shape → List (List Words) → List ℕ
said_in number limits [] shapes lists = []
said_in number limits (entry ∷ past) shapes lists =
    said_in number limits past (shapes_before entry shapes) (lists_before entry lists)
    ++ says_of number (before_last limits entry past shapes lists) entry (last_unit shapes) (list_text (last_list lists))

abbrev pub said_of : ℕ → History → List ℕ
said_of number h = said_in number h.limits h.past h.shapes h.lists

-- one of these began by the entry of a number
abbrev pub began_in : ℕ → List Begun → Bool
began_in number [] = false
began_in number (it ∷ begun) = if it.number == number then true else began_in number begun

-- it waits, or the body that it began is under way, where the journal ends
abbrev pub waits_still : Bool → List ℕ
waits_still waits = if waits then codes "still waits where the journal ends" ++ 10 ∷ [] else []

abbrev pub runs_still : Bool → List ℕ
runs_still runs = if runs then codes "the body that it began is under way where the journal ends" ++ 10 ∷ [] else []

-- by the waits and the bodies that last
abbrev pub still_by : ℕ → List Begun → List Begun → List ℕ
still_by number waits bodies = waits_still (began_in number waits) ++ runs_still (began_in number bodies)

abbrev pub still : ℕ → History → List ℕ
still number h = still_by number (lasting Waits h.shapes h.past) (lasting Bodies h.shapes h.past)

-- there is an entry of a number, among so many
abbrev pub is_entry : ℕ → ℕ → Bool
is_entry number entries = nat_lt 0 number && nat_le number entries

-- there is none of a number, where there are so many
abbrev pub no_entry : ℕ → ℕ → List ℕ
no_entry number entries = codes "no entry " ++ (decimal number ++ (codes ": the journal has " ++ (decimal entries ++ 10 ∷ [])))

-- the explanation of the entry of a number
abbrev pub explanation : ℕ → History → List ℕ
explanation number h =
    if is_entry number (length h.past) then said_of number h ++ still number h else no_entry number (length h.past)
