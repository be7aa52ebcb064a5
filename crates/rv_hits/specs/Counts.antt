-- What is counted of the lines of the list in force, by their places (own).
use Rattle.std.specs.Prelude.{◌≡◌, ℕ, ◌==◌, if◌then◌else◌, List, [], ◌∷◌, string_bytes}
use Rattle.std.specs.List.{AllZip}
use Rattle.std.specs.Str.{bytes_eq}
use Rattle.rv_access.specs.Text.{line_text}
use Rattle.rv_access.specs.Words.{Words}
use Rattle.rv_hits.specs.declared.counts.Counted.{Counted}
use Rattle.rv_tallied.specs.Tallies.{added, once_more}
use Rattle.rv_tallied.specs.declared.tallies.Tally.{Tally}

-- what is counted is of this line
abbrev pub IsOf : Words → Counted → Type 0
IsOf line it = (string_bytes it.words ≡ line_text line) × (it.allows ≡ line.allow)

-- of the lines of a list, in their order
abbrev pub AreOf : List Counted → List Words → Type 0
AreOf counts list = AllZip IsOf list counts

-- the tally of words with what a line decided, if it did and has these words
abbrev pub with_count : Counted → List ℕ → Tally → Tally
with_count it words tally = if it.times == 0 then tally else added (string_bytes it.words) it.times it.allows words tally

-- with what all lines did
abbrev pub joined : List Counted → List ℕ → Tally → Tally
joined [] words tally = tally
joined (it ∷ counts) words tally = joined counts words (with_count it words tally)

-- a line that hasn't decided yet
pub record IsFreshOf (it : Counted) (line : Words) : Type 0 where
  pub is : IsOf line it
  pub never : it.times ≡ 0

-- the lines of a list, none of which has
pub record IsFresh (counts : List Counted) (list : List Words) : Type 0 where
  pub are : AreOf counts list
  pub never : (words : List ℕ) (tally : Tally) → joined counts words tally ≡ tally

-- this line of the list decided once more
pub record CountsAt (old new : List Counted) (list : List Words) (line : Words) : Type 0 where
  pub are : AreOf new list
  pub counted : (words : List ℕ) (tally : Tally) → joined new words tally
      ≡ (if bytes_eq (line_text line) words then once_more line.allow (joined old words tally) else joined old words tally)
