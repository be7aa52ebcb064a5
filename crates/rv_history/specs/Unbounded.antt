-- The answer that is due where the capacity alone bounds what units spend (own).
use Rattle.std.specs.Prelude.{ℕ, Bool, true, ◌∷◌, Option, Some, None}
use Rattle.rv_event.specs.Recorded.{recorded}
use Rattle.rv_event.specs.declared.entry.Answer.{Answer}
use Rattle.rv_event.specs.declared.entry.Entry.TheVariants.{Asked}
use Rattle.rv_event.specs.declared.entry.Recorded.{Recorded}
use Rattle.rv_event.specs.declared.entry.Request.{Request}
use Rattle.rv_history.specs.Due.{due, within}
use Rattle.rv_history.specs.History.{History}
use Rattle.rv_history.specs.Owed.{has_room}

-- the room is enough for an answer: for one that isn't recorded it is
abbrev pub room_for : History → ℕ → Request → Option Recorded → Bool
room_for h actor request None = true
room_for h actor request (Some word) = has_room h.limits.capacity h.shapes (Asked actor request word ∷ h.past)

-- the due answer, by the room alone
abbrev pub out_by_room : History → ℕ → Request → Answer
out_by_room h actor request =
    let answer = due h actor request in
    within (room_for h actor request (recorded answer)) answer
