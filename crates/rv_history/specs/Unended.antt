-- Whether a body has ended since (own).
use Rattle.std.specs.Prelude.{◌≡◌, ◌≢◌, List, [], ◌∷◌, ◌++◌, Some}
use Rattle.rv_shape.specs.Shape.{Shape}
use Rattle.rv_event.specs.Past.{ended, innermost}
use Rattle.rv_event.specs.declared.entry.Body.{Body}
use Rattle.rv_event.specs.declared.entry.Entry.{Entry}

-- none of the later entries ends the body: none is an end of its actor's while it is that actor's innermost
abbrev pub IsUnended : List Shape → Body → List Entry → List Entry → Type 0
IsUnended shapes body [] past = Unit {0}
IsUnended shapes body (e ∷ later) past =
    IsUnended shapes body later past × (ended e ≡ Some body.actor →
    innermost shapes body.actor (later ++ past) ≢ Some body)
