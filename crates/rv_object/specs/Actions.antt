-- The protected actions under way on an object, the newest first.
use Rattle.std.specs.Prelude.{◌==◌, ◌&&◌, ◌<◌, ℤ, Bool, true, false, not, List, [], ◌∷◌, replicate}
use Rattle.std.specs.List.{list_any}
use Rattle.rv_object.specs.declared.action.Action.{Action}
use Rattle.rv_object.specs.declared.action.Action.TheVariants.{Shared, Exclusive}
use Rattle.rv_object.specs.declared.action.State.{State}
use Rattle.rv_object.specs.declared.action.State.TheVariants.{Free, Readers, Writer, Settling}

-- an object: the actions under way, the newest first, whether its queue has to be served on before another (own), and the
-- values of its components (9.4)
pub record ObjectView : Type 0 where
  pub actions : List Action
  pub unsettled : Bool
  pub scalars : List ℤ

-- a function's action (9.5.1)
abbrev pub is_shared : Action → Bool
is_shared Shared = true
is_shared (Exclusive actor) = false

-- an action is under way, and it or the one asked for isn't a function's (9.5.1)
abbrev pub excludes : List Action → Action → Bool
excludes under_way asked = list_any (λ action. not (is_shared action && is_shared asked)) under_way

-- the same action: both shared, or both exclusive of one actor (own)
abbrev pub same_action : Action → Action → Bool
same_action Shared Shared = true
same_action Shared (Exclusive other) = false
same_action (Exclusive actor) Shared = false
same_action (Exclusive actor) (Exclusive other) = actor == other

-- such an action is among those under way (own)
abbrev pub is_under_way : Action → List Action → Bool
is_under_way action under_way = list_any (same_action action) under_way

-- the actions that a state stands for (own)
abbrev pub actions_of : State → List Action
actions_of Free = []
actions_of (Readers count) = replicate count Shared
actions_of (Writer actor) = Exclusive actor ∷ []
actions_of Settling = []

-- the state keeps everybody out until the queue has been served on (own)
abbrev pub is_unsettled : State → Bool
is_unsettled Settling = true
is_unsettled state = false

-- readers are at least one (own)
abbrev pub IsCounted : State → Type 0
IsCounted Free = Unit {0}
IsCounted (Readers count) = 0 < count
IsCounted (Writer actor) = Unit {0}
IsCounted Settling = Unit {0}

-- the values after an action: those given by an exclusive one, else those before (9.5.1)
abbrev pub scalars_after : Action → List ℤ → List ℤ → List ℤ
scalars_after Shared before given = before
scalars_after (Exclusive actor) before given = given
