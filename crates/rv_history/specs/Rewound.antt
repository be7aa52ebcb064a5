-- A history as it was before its newest entries (own).
use Rattle.std.specs.Prelude.{ℕ, zero, suc, List, [], ◌∷◌}
use Rattle.rv_access.specs.Words.{Words}
use Rattle.rv_shape.specs.Shape.{Shape}
use Rattle.rv_event.specs.declared.entry.Entry.{Entry}
use Rattle.rv_history.specs.declared.limits.Limits.{Limits}
use Rattle.rv_history.specs.History.{History}
use Rattle.rv_history.specs.Journal.{shapes_before, lists_before}

-- the history of these parts without its newest entry: a load takes its shape with it, and a list change its list
abbrev pub one_back : Limits → List Entry → List Shape → List (List Words) → History
one_back limits [] shapes lists = record { limits = limits; past = []; shapes = shapes; lists = lists }
one_back limits (entry ∷ past) shapes lists =
    record { limits = limits; past = past; shapes = shapes_before entry shapes; lists = lists_before entry lists }

-- without the newest entry
abbrev pub without_newest : History → History
without_newest h = one_back h.limits h.past h.shapes h.lists

-- without so many of the newest
abbrev pub rewound : ℕ → History → History
rewound zero h = h
rewound (suc n) h = rewound n (without_newest h)
