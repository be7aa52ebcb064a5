-- Whether an object is unsettled, in one sentence (9.5.3, own): the last entry that served its queue, an end or a settle,
-- dropped a caller, and others wait there behind it. `is_unsettled` is equal to it in each legal history. A function's end
-- serves nobody; it is counted here, since none comes while the object is unsettled.
use Rattle.std.specs.Prelude.{ℕ, Bool, false, ◌==◌, if◌then◌else◌, List, [], ◌∷◌, Some, None, Option}
use Rattle.rv_shape.specs.Shape.{Shape}
use Rattle.rv_event.specs.Past.{ended, innermost, is_named, leaves_some, next_of, queue}
use Rattle.rv_event.specs.declared.entry.Body.{Body}
use Rattle.rv_event.specs.declared.entry.Entry.{Entry}
use Rattle.rv_event.specs.declared.entry.Entry.TheVariants.{Asked}
use Rattle.rv_event.specs.declared.entry.Recorded.TheVariants.{Done}
use Rattle.rv_event.specs.declared.entry.Request.TheVariants.{Complete, Settle}

-- the body that the actor ended last
abbrev pub ended_last : List Shape → ℕ → List Entry → Option Body
ended_last shapes actor [] = None
ended_last shapes actor (entry ∷ past) =
    if is_named actor (ended entry) then innermost shapes actor past else ended_last shapes actor past

-- the body whose object's queue an entry served: of an end the one that it ended, of a settle the one that its actor ended
-- last
abbrev pub served_by : List Shape → List Entry → Entry → Option Body
served_by shapes past (Asked actor (Complete values exit) (Done next)) = innermost shapes actor past
served_by shapes past (Asked actor Settle (Done next)) = ended_last shapes actor past
served_by shapes past entry = None

-- it is this object's
abbrev pub is_body_on : ℕ → Option Body → Bool
is_body_on object None = false
is_body_on object (Some body) = body.object == object

-- the last entry that served the object's queue dropped a caller and left others waiting
abbrev pub left_waiting : List Shape → ℕ → List Entry → Bool
left_waiting shapes object [] = false
left_waiting shapes object (entry ∷ past) =
    if is_body_on object (served_by shapes past entry) then leaves_some (next_of entry) (queue object (entry ∷ past))
    else left_waiting shapes object past
