-- Which line of an access list decides at a tick (own).
use Rattle.std.specs.Prelude.{ℕ, ◌+◌, ◌-◌, Bool, false, ◌==◌, ◌&&◌, ◌||◌, if◌then◌else◌, List, [], ◌∷◌, codes, slice_get, Some, None, Option}
use Rattle.std.specs.Str.{bytes_eq}
use Rattle.rv_text.specs.Names.{is_same_name}
use Rattle.rv_access.specs.Words.{Words}
use Rattle.rv_access.specs.Windows.{is_open}

-- a word is `*` or the name, case ignored
abbrev pub fits : List ℕ → List ℕ → Bool
fits word name = bytes_eq word (codes "*") || is_same_name word name

-- a line's words fit, and its window is open
abbrev pub matches : Words → List ℕ → List ℕ → List ℕ → ℕ → Bool
matches line unit object operation tick =
    fits line.unit unit && fits line.object object && fits line.operation operation && is_open line.window tick

-- the greatest number of a line that matches at a tick, or 0
abbrev pub decides : List Words → List ℕ → List ℕ → List ℕ → ℕ → ℕ
decides [] unit object operation tick = 0
decides (line ∷ lines) unit object operation tick =
    let later = decides lines unit object operation tick in
    if later == 0 then (if matches line unit object operation tick then 1 else 0) else later + 1

-- that line exists and allows
abbrev pub allows : Option Words → Bool
allows None = false
allows (Some line) = line.allow

-- the line of a number that counts from 1
abbrev pub line_at : List Words → ℕ → Option Words
line_at lines number = if number == 0 then None else slice_get lines (number - 1)

-- a call of the operation is granted to the unit at a tick
abbrev pub grants : List Words → List ℕ → List ℕ → List ℕ → ℕ → Bool
grants lines unit object operation tick = allows (line_at lines (decides lines unit object operation tick))
