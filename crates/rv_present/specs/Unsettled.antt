-- The bodies whose ends left their objects unsettled, by actor and by object (9.5.3, own).
use Rattle.std.specs.Prelude.{◌≡◌, ℕ, ◌==◌, ◌<◌, ◌≤◌, Bool, true, false, List, [], ◌∷◌, length, Option, Some, None, slice_index_or}
use Rattle.std.specs.List.{filter}
use Rattle.rv_object.specs.Actions.{ObjectView}
use Rattle.rv_shape.specs.Catalogue.{all_objects}
use Rattle.rv_shape.specs.Shape.{Shape}
use Rattle.rv_event.specs.Past.{left_by, next_of, serving, unsettled}
use Rattle.rv_event.specs.declared.entry.Body.{Body}
use Rattle.rv_event.specs.declared.entry.Entry.{Entry}
use Rattle.rv_history.specs.Orderly.{Each, is_on}
use Rattle.rv_present.specs.Bodies.{IsKnown}
use Rattle.rv_present.specs.Holdings.{idle}

-- by actor the body whose end left its object unsettled, and how many there are
pub record Leavers : Type 0 where
  pub bodies : List (Option Body)
  pub number : ℕ

-- a body, if there is one
abbrev pub one_or_none : Option Body → List Body
one_or_none None = []
one_or_none (Some body) = body ∷ []

-- 1 for what is so, as that an object is unsettled
abbrev pub counted : Bool → ℕ
counted true = 1
counted false = 0

-- these bodies left their objects unsettled: one at most of an actor, and on an object
pub record AreUnsettled (left : List Body) (found : Leavers) (objects : List ObjectView) : Type 0 where
  pub own : (actor : ℕ) →
      filter (λ body. body.actor == actor) left ≡ one_or_none (slice_index_or found.bodies actor None)
  pub on : (object : ℕ) →
      length (filter (is_on object) left) ≡ counted (slice_index_or objects object idle).unsettled
  pub known : Each (IsKnown (length found.bodies) (length objects)) left
  pub count : found.number ≡ length left

-- a body may leave its object unsettled beside these: it is the first of its actor and on its object, which is free
pub record CanLeave (left : List Body) (found : Leavers) (objects : List ObjectView) (body : Body) : Type 0 where
  pub sound : AreUnsettled left found objects
  pub actor : body.actor < length found.bodies
  pub object : body.object < length objects
  pub first : filter (λ other. other.actor == body.actor) left ≡ []
  pub alone : length (filter (is_on body.object) left) ≡ 0
  pub free : (slice_index_or objects body.object idle).actions ≡ []

-- a body is on an object that is loaded
abbrev pub IsPlaced : List Shape → Body → Type 0
IsPlaced shapes body = body.object ≤ length (all_objects shapes)

-- objects are alike but for whether they are unsettled
pub record AreAlike (old new : List ObjectView) : Type 0 where
  pub long : length new ≡ length old
  pub actions : (object : ℕ) → (slice_index_or new object idle).actions ≡ (slice_index_or old object idle).actions
  pub scalars : (object : ℕ) → (slice_index_or new object idle).scalars ≡ (slice_index_or old object idle).scalars

-- the body whose object an entry leaves unsettled: it drops one caller, and others wait behind
abbrev pub leaver : List Shape → List Entry → Entry → Option Body
leaver shapes past entry =
    left_by (entry ∷ past) (next_of entry) (serving shapes past (unsettled shapes past) entry)
