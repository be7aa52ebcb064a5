-- What is known of the declarations of a body, where each stands behind the one before it in the text (own).
use Rattle.std.specs.Prelude.{ℕ, ◌+◌, ◌≤◌, List, [], ◌∷◌}
use Rattle.rv_types.specs.declared.point.Local.{Local}

-- none stands before this place, and each behind the one before it
abbrev pub RisesFrom : ℕ → List Local → Type 0
RisesFrom low [] = Unit {0}
RisesFrom low (one ∷ more) = (low ≤ one.at) × RisesFrom (one.at + 1) more

-- each stands behind the one before it
abbrev pub IsRising : List Local → Type 0
IsRising = RisesFrom 0
