-- Names that are near to a word, by the edits that lead from one to the other (own).
use Rattle.std.specs.Prelude.{ℕ, ◌*◌, ◌≤◌, ◌≡◌, Bool, false, nat_le, List, map, length, Option, Some, None, IsTrue}
use Rattle.std.specs.Char.{to_ascii_lowercase}
use Rattle.std.specs.List.{All, Contains}
use Rattle.std.specs.Str.{chars}
use Rattle.strsim.specs.Edits.{osa_table}

-- the characters of a name, letters as small ones
abbrev pub letters : List ℕ → List ℕ
letters name = chars (map to_ascii_lowercase name)

-- how many edits lead from a word to a name, case ignored: a character more, less or another, or two neighbours the other way
-- round; no part is edited twice
abbrev pub distance : List ℕ → List ℕ → ℕ
distance word name = (osa_table (letters word) (letters name)).last_row (length (letters name))

-- an edit for each three bytes of the word, and no more
abbrev pub is_near : List ℕ → List ℕ → Bool
is_near word name = nat_le (3 * distance word name) (length word)

-- one of these names, than which none of them is nearer
pub record IsNearest (word : List ℕ) (names : List (List ℕ)) (name : List ℕ) : Type 0 where
  pub there : Contains names name
  pub near : IsTrue (is_near word name)
  pub first : All (λ other. distance word name ≤ distance word other) names

-- the nearest of names, if one of them is near, behind how many edits lead there
abbrev pub IsBest : List ℕ → List (List ℕ) → Option (ℕ × List ℕ) → Type 0
IsBest word names None = All (λ name. is_near word name ≡ false) names
IsBest word names (Some best) = (best.0 ≡ distance word best.1) × IsNearest word names best.1
