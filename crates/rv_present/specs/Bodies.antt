-- The bodies under way, by actor and by object (own).
use Rattle.std.specs.Prelude.{◌≡◌, ℕ, ◌<◌, ◌^◌, ◌==◌, false, List, [], length, Option, Some, slice_index_or}
use Rattle.std.specs.List.{filter}
use Rattle.rv_prio.specs.declared.held.Held.{Held}
use Rattle.rv_object.specs.Actions.{ObjectView, excludes}
use Rattle.rv_shape.specs.Shape.{Shape}
use Rattle.rv_event.specs.Past.{closed, ended}
use Rattle.rv_event.specs.declared.entry.Body.{Body}
use Rattle.rv_history.specs.Orderly.{Each}
use Rattle.rv_present.specs.declared.bodies.Bodies.{Bodies}
use Rattle.rv_event.specs.declared.entry.Entry.{Entry}
use Rattle.rv_present.specs.Holdings.{holdings, actions_on, action_of, idle}

-- the stack of each actor is what these bodies of its hold
abbrev pub AreStacks : List Shape → List Body → List (List Held) → Type 0
AreStacks shapes bodies stacks = (actor : ℕ) → slice_index_or stacks actor [] ≡ holdings shapes actor bodies

-- each object has the actions of these bodies on it
abbrev pub AreActions : List Shape → List Body → List ObjectView → Type 0
AreActions shapes bodies objects =
    (object : ℕ) → (slice_index_or objects object idle).actions ≡ actions_on shapes object bodies

-- a body has an actor and an object that there can be
abbrev pub IsKnown : ℕ → ℕ → Body → Type 0
IsKnown actors places body = (body.actor < actors) × (body.object < places)

-- these bodies are under way
pub record IsBodies (shapes : List Shape) (bodies : List Body) (found : Bodies) : Type 0 where
  pub stacks : AreStacks shapes bodies found.stacks
  pub actions : AreActions shapes bodies found.objects
  pub known : Each (IsKnown (length found.stacks) (length found.objects)) bodies
  pub count : found.number ≡ length bodies

-- a body may start beside these
pub record CanStart (shapes : List Shape) (bodies : List Body) (actors places : ℕ) (body : Body) : Type 0 where
  pub actor : body.actor < actors
  pub object : body.object < places
  pub room : length (filter (λ other. other.actor == body.actor) bodies) < 16
  pub free : excludes (actions_on shapes body.object bodies) (action_of shapes body) ≡ false
  pub few : length bodies < 2 ^ 32

-- these bodies let one end and one start
pub record IsReady (shapes : List Shape) (bodies : List Body) (found : Bodies) (entry : Entry) (start : Option Body) : Type 0 where
  pub sound : IsBodies shapes bodies found
  pub starts : (body : Body) → start ≡ Some body →
      CanStart shapes (closed (ended entry) bodies) (length found.stacks) (length found.objects) body
