-- What is said of a unit that has spent its allowance (own).
use Rattle.std.specs.Prelude.{ℕ, List, [], ◌∷◌, ◌++◌, codes}
use Rattle.rv_tally.specs.Wording.{grouped}

abbrev pub spent_words : List ℕ → List ℕ → List ℕ
spent_words unit quota =
    codes "quota: " ++ (unit ++ (codes " has spent its " ++ (quota
    ++ (codes " entries; what it asks behind them is answered full" ++ 10 ∷ []))))

abbrev pub spent_line : List ℕ → ℕ → List ℕ
spent_line unit quota = spent_words unit (grouped quota)
