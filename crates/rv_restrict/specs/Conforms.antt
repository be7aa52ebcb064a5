-- Whether a unit conforms to the profile (ISO/IEC 8652:2012, D.13), and which of its violations is the first.
use Rattle.std.specs.Prelude.{◌≡◌, ◌⊎◌, false, List, [], ◌∷◌}
use Rattle.rv_tree.specs.Units.{UnitTree}
use Rattle.rv_restrict.specs.declared.violation.Violation.{Violation}
use Rattle.rv_restrict.specs.Found.{precedes}
use Rattle.rv_restrict.specs.UnitWalk.{unit_noted}

-- all violations of a unit
abbrev pub violations : UnitTree → List Violation
violations tree = unit_noted (λ v vs. v ∷ vs) tree []

-- nothing is broken
abbrev pub Conforms : UnitTree → Type 0
Conforms tree = violations tree ≡ []

-- one of these
abbrev pub IsOneOf : Violation → List Violation → Type 0
IsOneOf v [] = ⊥
IsOneOf v (w ∷ ws) = (v ≡ w) ⊎ IsOneOf v ws

-- none of these precedes it
abbrev pub NonePrecedes : Violation → List Violation → Type 0
NonePrecedes v [] = Unit {0}
NonePrecedes v (w ∷ ws) = (precedes w v ≡ false) × NonePrecedes v ws

-- the first of these
pub record IsFirst (v : Violation) (vs : List Violation) : Type 0 where
  pub is_one : IsOneOf v vs
  pub none_precedes : NonePrecedes v vs
