-- How often something was counted, by words (own).
use Rattle.std.specs.Prelude.{ℕ, ◌+◌, ◌-◌, ◌^◌, Bool, if◌then◌else◌, List, [], ◌∷◌, ◌++◌, min, codes, Option, Some, None}
use Rattle.std.specs.Fmt.{decimal}
use Rattle.std.specs.HashMap.{get_by_text}
use Rattle.std.specs.List.{list_any}
use Rattle.std.specs.Str.{bytes_eq}
use Rattle.rv_tallied.specs.declared.tallies.Tallies.{Tallies}
use Rattle.rv_tallied.specs.declared.tallies.Tally.{Tally}

-- words with some more, where they aren't among them yet
abbrev pub with_words : List (List ℕ) → List ℕ → List (List ℕ)
with_words seen words = if list_any (bytes_eq words) seen then seen else seen ++ words ∷ []

-- one more, as far as a number goes
abbrev pub one_more : ℕ → ℕ
one_more number = min (number + 1) (2 ^ 64 - 1)

-- once more, and granted or not
abbrev pub once_more : Bool → Tally → Tally
once_more grants tally = record {
  times = one_more tally.times;
  granted = if grants then one_more tally.granted else tally.granted;
}

-- so often more, and granted each time or never
abbrev pub more : ℕ → Bool → Tally → Tally
more times grants tally = record {
  times = min (tally.times + times) (2 ^ 64 - 1);
  granted = if grants then min (tally.granted + times) (2 ^ 64 - 1) else tally.granted;
}

abbrev pub never : Tally
never = record { times = 0; granted = 0 }

abbrev pub or_never : Option Tally → Tally
or_never None = never
or_never (Some tally) = tally

-- what is kept for words
abbrev pub kept_for : Tallies → List ℕ → Tally
kept_for tallies words = or_never (get_by_text tallies.items words)

-- and where these are counted once more
abbrev pub counted : List ℕ → Bool → List ℕ → Tally → Tally
counted key grants words tally = if bytes_eq key words then once_more grants tally else tally

-- and where these are counted so often more
abbrev pub added : List ℕ → ℕ → Bool → List ℕ → Tally → Tally
added key times grants words tally = if bytes_eq key words then more times grants tally else tally

-- a row: how often words were counted, and how often something was granted with them
abbrev pub row_text : List ℕ → List ℕ → Tally → List ℕ
row_text how words tally =
    how ++ 32 ∷ (decimal tally.times ++ (codes " granted " ++ (decimal tally.granted ++ (codes ": " ++ (words ++ 10 ∷ [])))))

-- the rows of these words
abbrev pub rows_text : List ℕ → (List ℕ → Tally) → List (List ℕ) → List ℕ
rows_text how tally_of [] = []
rows_text how tally_of (words ∷ others) = row_text how words (tally_of words) ++ rows_text how tally_of others
