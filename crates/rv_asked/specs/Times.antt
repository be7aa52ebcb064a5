-- At how many entries of a history the access list is asked what passes a test (own).
use Rattle.std.specs.Prelude.{ℕ, ◌+◌, Bool, if◌then◌else◌, List, [], ◌∷◌, Option}
use Rattle.rv_access.specs.Words.{Words}
use Rattle.rv_shape.specs.Shape.{Shape}
use Rattle.rv_event.specs.declared.entry.Body.{Body}
use Rattle.rv_event.specs.declared.entry.Entry.{Entry}
use Rattle.rv_history.specs.declared.limits.Limits.{Limits}
use Rattle.rv_history.specs.History.{History}
use Rattle.rv_history.specs.Journal.{lists_before, shapes_before}
use Rattle.rv_refused.specs.Refusals.{before_last}
use Rattle.rv_asked.specs.Asked.{asked_at}

-- a test of the history before an entry, and of the call about which the list is asked there, if it is asked
abbrev pub Test : Type 0
Test = History → Option Body → Bool

-- 1 where it passes
abbrev pub one_if : Bool → ℕ
one_if passed = if passed then 1 else 0

-- at how many of these entries, which come the newest first, it passes
abbrev pub times : Test → Limits → List Entry → List Shape → List (List Words) → ℕ
times test limits [] shapes lists = 0
times test limits (entry ∷ past) shapes lists =
    times test limits past (shapes_before entry shapes) (lists_before entry lists)
    + one_if (test (before_last limits entry past shapes lists) (asked_at (shapes_before entry shapes) past entry))

-- of a history
abbrev pub times_in : Test → History → ℕ
times_in test h = times test h.limits h.past h.shapes h.lists
