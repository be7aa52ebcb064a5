-- What lasts in a history: waits in a queue (9.5.3) or on a suspension object (D.10), bodies (9.5.1) and delays (9.6) (own).
use Rattle.std.specs.Prelude.{ℕ, suc, ◌&&◌, Bool, if◌then◌else◌, List, [], ◌∷◌, ◌++◌, length, Option, Some, None}
use Rattle.std.specs.Option.{option_map}
use Rattle.rv_shape.specs.Catalogue.{first_of, target, who}
use Rattle.rv_shape.specs.Shape.{Shape}
use Rattle.rv_event.specs.Past as past
use Rattle.rv_event.specs.declared.entry.Body.{Body}
use Rattle.rv_event.specs.declared.entry.Entry.{Entry}
use Rattle.rv_history.specs.Journal.{shapes_before}
use Rattle.rv_refused.specs.Filters.{FilterText, is_since, takes_by, takes_of}
use Rattle.rv_lasting.specs.Lasting.{delay_by, set_on, since, waiting_by, woken_by}
use Rattle.rv_lasting.specs.Tracks.{Tracked, closed, ended, opened, span_at}
use Rattle.rv_lasting.specs.declared.track.Begun.{Begun}
use Rattle.rv_lasting.specs.declared.track.Span.{Span}

pub data What : Type 0 where
  Waits : What
  Bodies : What
  Delays : What

-- the actor that waits on an object that is set to True
abbrev pub released_on : List Entry → Option ℕ → Option ℕ
released_on before None = None
released_on before (Some object) = past.waiter object before

-- the actor whose wait an entry ends: it is handed the object or dropped, or released by a Set_True
abbrev pub freed_by : List Entry → Entry → Option ℕ
freed_by before entry = first_of (past.named_in (past.next_of entry)) (released_on before (set_on entry))

-- the actor of whose an entry ends the newest
abbrev pub ended_by : What → List Entry → Entry → Option ℕ
ended_by Waits before entry = freed_by before entry
ended_by Bodies before entry = past.ended entry
ended_by Delays before entry = woken_by entry

-- what begins by an entry behind these, if this call does
abbrev pub begun_at : List Entry → Option Body → Option Begun
begun_at before call = option_map (since (suc (length before)) (past.clock before)) call

abbrev pub begun_by : What → List Shape → List Entry → Entry → Option Begun
begun_by Waits shapes before entry = begun_at before (waiting_by entry)
begun_by Bodies shapes before entry = begun_at before (past.started shapes before entry)
begun_by Delays shapes before entry = delay_by entry (suc (length before))

-- what began and hasn't ended, the newest first
abbrev pub lasting : What → List Shape → List Entry → List Begun
lasting what shapes [] = []
lasting what shapes (entry ∷ before) =
    opened (begun_by what (shapes_before entry shapes) before entry)
    (closed (ended_by what before entry) (lasting what (shapes_before entry shapes) before))

-- what an entry ends
abbrev pub end_of : What → List Shape → List Entry → Entry → Option Begun
end_of what shapes before entry = ended (ended_by what before entry) (lasting what shapes before)

-- a filter takes it, by the entry and the tick of its begin, by whose it is and of what
abbrev pub takes : FilterText → List Shape → Begun → Bool
takes filter shapes it =
    is_since filter.since it.number it.tick && takes_by filter.by (who shapes it.call.actor)
    && takes_of filter.of (target shapes it.call.object it.call.operation)

abbrev pub if_taken : FilterText → List Shape → Option Begun → Option Begun
if_taken filter shapes None = None
if_taken filter shapes (Some it) = if takes filter shapes it then Some it else None

-- with how long it lasted, where one ends at this tick
abbrev pub with_span : ℕ → Option Begun → List Span → List Span
with_span tick None spans = spans
with_span tick (Some it) spans = spans ++ span_at it tick ∷ []

-- how long what ended lasted, of what a filter takes, in the order of the ends
abbrev pub spans : What → FilterText → List Shape → List Entry → List Span
spans what filter shapes [] = []
spans what filter shapes (entry ∷ before) =
    with_span (past.clock before) (if_taken filter (shapes_before entry shapes) (end_of what (shapes_before entry shapes) before entry))
    (spans what filter (shapes_before entry shapes) before)

-- both
abbrev pub tracked : What → FilterText → List Shape → List Entry → Tracked
tracked what filter shapes before = record { begun = lasting what shapes before; spans = spans what filter shapes before }
