-- Notes of one turn that are told through a channel. (own)
use Rattle.std.specs.Prelude.{◌≡◌, ◌⊎◌, List, [], ◌∷◌, Option, Some, None}
use Rattle.atomic_table.specs.Seated.{TableId}
use Rattle.rv_turn.specs.Histories.{Each}
use Rattle.rv_turn.specs.Passes.{Noted}
use Rattle.rv_behind.specs.declared.event.Event.{Event}

-- what an end knows: a note, whose turn is that of all
abbrev pub IsFor : TableId → Option (Noted Event) → Type 0
IsFor turn None = ⊥
IsFor turn (Some note) = note.turn ≡ turn

-- Before the first note there is one end, which knows nothing. Then all notes on their way are of one turn, and all ends know it.
abbrev pub AreOfOne : List (Noted Event) → List (Option (Noted Event)) → Type 0
AreOfOne notes ends =
    ((notes ≡ []) × (ends ≡ None ∷ [])) ⊎ ((turn : TableId) × Each (λ note. note.turn ≡ turn) notes × Each (IsFor turn) ends)
