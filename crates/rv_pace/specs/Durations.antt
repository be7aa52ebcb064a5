-- How long a journal lasts by ticks alone. (own)
use Rattle.std.specs.Prelude.{ℕ, ◌/◌, ◌%◌, List, [], ◌∷◌, ◌++◌, codes}
use Rattle.std.specs.Fmt.{decimal}

-- so many seconds, in minutes and the rest
abbrev pub time_text : ℕ → List ℕ
time_text seconds = decimal (seconds / 60) ++ (codes " min " ++ (decimal (seconds % 60) ++ codes " s"))

abbrev pub lasting_line : ℕ → List ℕ → List ℕ
lasting_line entries time =
    codes "note: " ++ (decimal entries ++ (codes " entries last " ++ (time ++ (codes " by ticks alone" ++ 10 ∷ []))))
