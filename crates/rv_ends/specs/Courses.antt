-- What a body comes to, by its text and what was recorded of it, where an end of it was recorded (own).
use Rattle.std.specs.Prelude.{◌≡◌, true, false, List, [], Some, None}
use Rattle.rv_shape.specs.Shape.{Shape}
use Rattle.rv_code.specs.Bodies.{UnitBodies}
use Rattle.rv_event.specs.declared.entry.Request.{Request}
use Rattle.rv_exec.specs.Asking.{Trace}
use Rattle.rv_ends.specs.Afoot.{Open}
use Rattle.rv_ends.specs.Explained.{AsksBehind, ByRecorded, EndsBy, FitsStop, FollowsToStop, Ends, HasNoText, is_stopped_end}
use Rattle.rv_ends.specs.Following.{Place}
use Rattle.rv_ends.specs.declared.meaning.Course.{Course}
use Rattle.rv_ends.specs.declared.meaning.Course.TheVariants as course

-- what a body comes to is so
abbrev pub IsCourse : UnitBodies → List Shape → Open → Request → Course → Type 0
IsCourse bodies shapes body end course.Explained = ByRecorded bodies shapes body end × (HasNoText bodies body → ⊥)
IsCourse bodies shapes body end course.WithoutText = HasNoText bodies body
IsCourse bodies shapes body end (course.Gives request) =
    EndsBy bodies shapes body request × (ByRecorded bodies shapes body end → ⊥) × (HasNoText bodies body → ⊥)
IsCourse bodies shapes body end (course.Stops other) =
    (trace : Trace) × FollowsToStop shapes body.start.held body.asked other trace × Ends bodies body.start trace end
    × AsksBehind bodies shapes body other × (HasNoText bodies body → ⊥)
IsCourse bodies shapes body end (course.Asks request) =
    (asks : AsksBehind bodies shapes body request) × (HasNoText bodies body → ⊥) × (FitsStop bodies shapes body request asks end → ⊥)

-- what is found where a run came to this place, and gave this end
abbrev pub IsWeighed : Place → Request → Request → Course → Type 0
IsWeighed place given end course.Explained = (place.other ≡ None) × (place.asked ≡ []) × (given ≡ end) × (is_stopped_end end ≡ false)
IsWeighed place given end course.WithoutText = ⊥
IsWeighed place given end (course.Gives request) =
    (place.other ≡ None) × (request ≡ given) × (place.asked ≡ [] → given ≡ end → is_stopped_end end ≡ true)
IsWeighed place given end (course.Stops other) = (place.other ≡ Some other) × (place.is_broken ≡ false) × (place.asked ≡ []) × (given ≡ end)
IsWeighed place given end (course.Asks request) =
    (place.other ≡ Some request) × (place.is_broken ≡ false → place.asked ≡ [] → given ≡ end → ⊥)
