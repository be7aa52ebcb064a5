-- What is told of a command that is refused for what it says itself, for people (own).
use Rattle.std.specs.Prelude.{ℕ, ℤ, Bool, true, false, not, nat_lt, if◌then◌else◌, List, [], ◌∷◌, ◌++◌, length, codes, is_some, Option, Some, None}
use Rattle.std.specs.Fmt.{decimal}
use Rattle.std.specs.Str.{bytes_eq}
use Rattle.rv_access.specs.Changes.{changed}
use Rattle.rv_access.specs.Limits.{most_lines}
use Rattle.rv_access.specs.Words.{Words}
use Rattle.rv_access.specs.declared.change.Change.{Change}
use Rattle.rv_access.specs.declared.change.Change.TheVariants.{Append}
use Rattle.rv_history.specs.Fitting.{is_tick}

-- a note, as a line
abbrev pub note : List ℕ → List ℕ
note words = codes "note: " ++ (words ++ 10 ∷ [])

-- `tick N`: so many ticks are `misuse`
abbrev pub ticks_advice : ℤ → Option (List ℕ)
ticks_advice ticks = if is_tick ticks then None else Some (note (codes "tick takes 1 to 1000000 ticks"))

-- there is room for one line more
abbrev pub has_room : List Words → Bool
has_room list = nat_lt (length list) most_lines

-- `append`, `remove` and `replace`: the change is `badline`, since a full list takes no line more, and no other line can be named
-- than those of the list
abbrev pub is_amiss : List Words → Change → Bool
is_amiss list (Append line) = not (has_room list)
is_amiss list change = not (is_some (changed list change))

abbrev pub change_advice : List Words → Change → Option (List ℕ)
change_advice list change =
    if is_amiss list change then Some (note (codes "the list has " ++ (decimal (length list) ++ codes " lines"))) else None

-- a word that only a console takes; or that takes no other behind it there
abbrev pub console_advice : List ℕ → Bool → List ℕ
console_advice word true = word ++ codes " takes no word behind it"
console_advice word false = codes "only run --console takes " ++ word

-- the first word of a line that is no command
abbrev pub word_advice : List ℕ → Bool → Option (List ℕ)
word_advice word console =
    if bytes_eq word (codes "raise") then Some (note (codes "raise takes the number of a line, 0 to 9"))
    else if bytes_eq word (codes "journal") then Some (note (codes "journal takes the number of an entry, from 1 on"))
    else if bytes_eq word (codes "help") then Some (note (console_advice word console))
    else if bytes_eq word (codes "list") then Some (note (console_advice word console))
    else if bytes_eq word (codes "status") then Some (note (console_advice word console))
    else None
