-- What changes make of a list (own). Lines are numbered from 1.
use Rattle.std.specs.Prelude.{ℕ, ◌-◌, nat_lt, if◌then◌else◌, List, [], ◌∷◌, ◌++◌, take, drop, length, Some, None, Option}
use Rattle.rv_access.specs.Words.{Words}
use Rattle.rv_access.specs.declared.change.Change.{Change}
use Rattle.rv_access.specs.declared.change.Change.TheVariants.{Whole, Append, Remove, Replace}

-- the list with one more line at its end
abbrev pub appended : List Words → Words → List Words
appended lines line = lines ++ line ∷ []

-- the list without the line of a number
abbrev pub removed : List Words → ℕ → List Words
removed lines number = take (number - 1) lines ++ drop number lines

-- the list with another line in place of that of a number
abbrev pub replaced : List Words → ℕ → Words → List Words
replaced lines number line = take (number - 1) lines ++ line ∷ drop number lines

-- where there is a line of this number
abbrev pub at_line : ℕ → List Words → List Words → Option (List Words)
at_line number lines after =
    if nat_lt 0 number then (if nat_lt (length lines) number then None else Some after) else None

-- the whole list after a change, if the line is one of it
abbrev pub changed : List Words → Change → Option (List Words)
changed lines (Whole list) = Some list
changed lines (Append line) = Some (appended lines line)
changed lines (Remove number) = at_line number lines (removed lines number)
changed lines (Replace number line) = at_line number lines (replaced lines number line)
