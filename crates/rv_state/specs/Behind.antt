-- A history as it was behind one of its entries (own).
use Rattle.std.specs.Prelude.{ℕ, suc, ◌==◌, if◌then◌else◌, List, [], ◌∷◌, length, Option, Some, None}
use Rattle.rv_access.specs.Words.{Words}
use Rattle.rv_shape.specs.Shape.{Shape}
use Rattle.rv_event.specs.declared.entry.Entry.{Entry}
use Rattle.rv_history.specs.declared.limits.Limits.{Limits}
use Rattle.rv_history.specs.History.{History}
use Rattle.rv_history.specs.Journal.{lists_before, shapes_before}

abbrev pub history_of : Limits → List Entry → List Shape → List (List Words) → History
history_of limits past shapes lists = record { limits = limits; past = past; shapes = shapes; lists = lists }

-- a history of these parts as it was behind the entry of a number, if it has so many; behind 0 nothing had happened
abbrev pub behind_in : ℕ → Limits → List Entry → List Shape → List (List Words) → Option History
behind_in number limits [] shapes lists = if number == 0 then Some (history_of limits [] shapes lists) else None
behind_in number limits (entry ∷ past) shapes lists =
    if number == suc (length past) then Some (history_of limits (entry ∷ past) shapes lists)
    else behind_in number limits past (shapes_before entry shapes) (lists_before entry lists)

abbrev pub behind : ℕ → History → Option History
behind number h = behind_in number h.limits h.past h.shapes h.lists
