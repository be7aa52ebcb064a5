-- Lists that were let go (own).
use Rattle.std.specs.Prelude.{ℕ, List, [], ◌∷◌, ◌++◌, take}
use Rattle.rv_access.specs.Words.{Words}

-- each time the first so many of those that there were
abbrev pub gone_lists : List (List (List Words)) → List ℕ → List (List Words)
gone_lists [] counts = []
gone_lists (lists ∷ others) [] = []
gone_lists (lists ∷ others) (count ∷ counts) = take count lists ++ gone_lists others counts
