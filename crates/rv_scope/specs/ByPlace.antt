-- What is found for identifiers, by their places (own).
use Rattle.std.specs.Prelude.{ℕ, nat_eq, List, [], ◌∷◌, Option}
use Rattle.std.specs.Map.{lookup}
use Rattle.indexmap.specs.IndexMap.{insert_entry}
use Rattle.rv_tree.specs.Names.{Identifier}

-- what is found, by the places of identifiers
abbrev pub ByPlace : Type 0 → Type 0
ByPlace T = List (ℕ × T)

-- what is found for the identifier of this place
abbrev pub at_place : {T : Type 0} → ByPlace T → ℕ → Option T
at_place found at = lookup (nat_eq at) found

-- the same, and what is found for one more
abbrev pub with_place : {T : Type 0} → ByPlace T → ℕ → T → ByPlace T
with_place found at one = insert_entry nat_eq found at one

-- the same, for each of these
abbrev pub with_places : {T : Type 0} → ByPlace T → List Identifier → T → ByPlace T
with_places found [] one = found
with_places found (i ∷ more) one = with_places (with_place found i.at one) more one
