-- What an actor asked in a history, with the answers that were due; and the entries that a history begins with (own).
use Rattle.std.specs.Prelude.{ℕ, zero, suc, ◌==◌, if◌then◌else◌, List, [], ◌∷◌, ◌++◌}
use Rattle.rv_access.specs.Words.{Words}
use Rattle.rv_shape.specs.Shape.{Shape}
use Rattle.rv_event.specs.declared.entry.Answer.{Answer}
use Rattle.rv_event.specs.declared.entry.Entry.{Entry}
use Rattle.rv_event.specs.declared.entry.Entry.TheVariants.{Asked, Load, ListChange}
use Rattle.rv_event.specs.declared.entry.Request.{Request}
use Rattle.rv_event.specs.declared.entry.Request.TheVariants.{Settle}
use Rattle.rv_exec.specs.Asking.{Trace}
use Rattle.rv_history.specs.declared.limits.Limits.{Limits}
use Rattle.rv_history.specs.Due.{out}
use Rattle.rv_history.specs.History.{History}
use Rattle.rv_history.specs.Journal.{shapes_before, lists_before}

-- the history of these entries, the newest first, with the shapes and the lists that they stand for
abbrev pub history_of : Limits → List Entry → List Shape → List (List Words) → History
history_of limits past shapes lists = record { limits = limits; past = past; shapes = shapes; lists = lists }

-- a request and its answer, as an ask of a text: no text asks a settle, which a port makes by itself
abbrev pub ask_of : Request → Answer → Trace
ask_of Settle answer = []
ask_of request answer = (request, answer) ∷ []

-- an entry of the actor, unless it is a settle, with the answer that was due behind this history
abbrev pub own_ask : ℕ → Entry → History → Trace
own_ask actor (Asked by request word) before = if by == actor then ask_of request (out before actor request) else []
own_ask actor Load before = []
own_ask actor ListChange before = []

abbrev pub asked_in : Limits → ℕ → List Entry → List Shape → List (List Words) → Trace
asked_in limits actor [] shapes lists = []
asked_in limits actor (entry ∷ past) shapes lists =
    asked_in limits actor past (shapes_before entry shapes) (lists_before entry lists)
    ++ own_ask actor entry (history_of limits past (shapes_before entry shapes) (lists_before entry lists))

-- what an actor asked, the oldest first: each of its entries but the settles, with the answer that was due on the entries before it
abbrev pub asks_of : ℕ → History → Trace
asks_of actor h = asked_in h.limits actor h.past h.shapes h.lists

-- a history without its last entry
abbrev pub without_entry : List Entry → History → History
without_entry [] h = h
without_entry (entry ∷ past) h = history_of h.limits past (shapes_before entry h.shapes) (lists_before entry h.lists)

-- the same without its last so many
abbrev pub without_last : ℕ → History → History
without_last zero h = h
without_last (suc n) h = without_last n (without_entry h.past h)
