-- The waits of a history, as a review prints them (own).
use Rattle.std.specs.Prelude.{ℕ, suc, if◌then◌else◌, List, [], ◌∷◌, ◌++◌, length, codes}
use Rattle.rv_shape.specs.Shape.{Shape}
use Rattle.rv_event.specs.Past.{clock, next_of}
use Rattle.rv_event.specs.declared.entry.Entry.{Entry}
use Rattle.rv_history.specs.History.{History}
use Rattle.rv_history.specs.Journal.{shapes_before}
use Rattle.rv_refused.specs.Filters.{FilterText}
use Rattle.rv_lasting.specs.Lines.{ended_line, wait_line}
use Rattle.rv_lasting.specs.Rows.{rows}
use Rattle.rv_lasting.specs.declared.track.Begun.{Begun}
use Rattle.rv_waits.specs.Lasting.{Waits, Bodies, Delays, end_of, if_taken, lasting, spans, takes}

-- the lines of the ended waits that a filter takes, in the order of their ends
abbrev pub waits_in : FilterText → List Shape → List Entry → List ℕ
waits_in filter shapes [] = []
waits_in filter shapes (entry ∷ before) =
    waits_in filter (shapes_before entry shapes) before
    ++ ended_line (shapes_before entry shapes) (next_of entry) (suc (length before)) (clock before)
    (if_taken filter (shapes_before entry shapes) (end_of Waits (shapes_before entry shapes) before entry))

-- that of one that lasts at this tick, where a filter takes it
abbrev pub lasting_line : FilterText → List Shape → ℕ → Begun → List ℕ
lasting_line filter shapes tick it =
    if takes filter shapes it then wait_line shapes it (codes "still waits") tick else []

-- the lines of those that last, the oldest first, of these, which come the newest first
abbrev pub lasting_lines : FilterText → List Shape → ℕ → List Begun → List ℕ
lasting_lines filter shapes tick [] = []
lasting_lines filter shapes tick (it ∷ begun) =
    lasting_lines filter shapes tick begun ++ lasting_line filter shapes tick it

-- the waits of a history that a filter takes, and how long waits, bodies and delays lasted
abbrev pub waits_text : FilterText → History → List ℕ
waits_text filter h =
    waits_in filter h.shapes h.past ++ (lasting_lines filter h.shapes (clock h.past) (lasting Waits h.shapes h.past)
    ++ (rows (codes "waited") h.shapes (spans Waits filter h.shapes h.past)
    ++ (rows (codes "held") h.shapes (spans Bodies filter h.shapes h.past)
    ++ rows (codes "late") h.shapes (spans Delays filter h.shapes h.past))))
