-- What the access list is asked, entry by entry (own): about the call of a caller and of a fired line, and where a queue is served
-- (9.5.3) about the call of its first caller. A delay and a resume ask it nothing.
use Rattle.std.specs.Prelude.{ℕ, ◌-◌, Bool, ◌&&◌, List, codes, Option, Some, None}
use Rattle.rv_access.specs.Lines.{decides, line_at}
use Rattle.rv_access.specs.Words.{Words}
use Rattle.rv_shape.specs.Catalogue.{by_names, handler, target, who}
use Rattle.rv_shape.specs.Shape.{Shape}
use Rattle.rv_event.specs.Past.{clock, fired, last_queued, named_in, next_of}
use Rattle.rv_event.specs.declared.entry.Body.{Body}
use Rattle.rv_event.specs.declared.entry.Entry.{Entry}
use Rattle.rv_event.specs.declared.entry.Entry.TheVariants.{Asked}
use Rattle.rv_event.specs.declared.entry.Request.TheVariants.{Call, Fire}
use Rattle.rv_history.specs.History.{History}
use Rattle.rv_history.specs.Subject.{subject}
use Rattle.rv_refused.specs.Filters.{FilterText, is_since, takes_by, takes_of}

-- the queued call of the caller that is handed the object or dropped, if one is
abbrev pub served_call : List Entry → Option ℕ → Option Body
served_call past None = None
served_call past (Some actor) = last_queued actor past

-- the call about which the list is asked at an entry behind these, if it is asked
abbrev pub asked_at : List Shape → List Entry → Entry → Option Body
asked_at shapes past (Asked actor (Call object operation values) answer) =
    Some (record { actor = actor; object = object; operation = operation })
asked_at shapes past (Asked actor Fire answer) = fired actor (handler shapes (actor - 1))
asked_at shapes past entry = served_call past (named_in (next_of entry))

-- the number of the line of a list that decides a call behind a history: for its subject, and at the clock; 0 where none does
abbrev pub decided_by : List Words → History → Body → ℕ
decided_by list h call =
    by_names 0 (λ object operation. decides list (subject h call.actor) object operation (clock h.past))
    (target h.shapes call.object call.operation)

-- that line
abbrev pub line_by : List Words → History → Body → Option Words
line_by list h call = line_at list (decided_by list h call)

-- a filter takes the entry of this number behind a history, by whose call it is about, and of what
abbrev pub takes : FilterText → History → ℕ → Body → Bool
takes filter h number call =
    is_since filter.since number (clock h.past) && takes_by filter.by (who h.shapes call.actor)
    && takes_of filter.of (target h.shapes call.object call.operation)

-- how it is asked, and of what the call is
abbrev pub asking_text : Entry → List ℕ
asking_text (Asked actor (Call object operation values) answer) = codes "call "
asking_text (Asked actor Fire answer) = codes "fire "
asking_text entry = codes "hand-over "
