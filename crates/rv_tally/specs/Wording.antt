-- What is said of the room of a journal (own).
use Rattle.std.specs.Prelude.{ℕ, ◌-◌, ◌/◌, ◌%◌, nat_lt, if◌then◌else◌, List, [], ◌∷◌, ◌++◌, codes}
use Rattle.std.specs.Fmt.{decimal}
use Rattle.rv_event.specs.declared.entry.Entry.{Entry}
use Rattle.rv_shape.specs.Shape.{Shape}
use Rattle.rv_tally.specs.Tallying.{added}

-- the last three digits of a number
abbrev pub three : ℕ → List ℕ
three number = decimal (number / 100 % 10) ++ (decimal (number / 10 % 10) ++ decimal (number % 10))

-- a number with commas between its thousands and its millions
abbrev pub grouped : ℕ → List ℕ
grouped number =
    if nat_lt number 1000 then decimal number
    else if nat_lt number 1000000 then decimal (number / 1000) ++ 44 ∷ three number
    else decimal (number / 1000000) ++ 44 ∷ (three (number / 1000) ++ 44 ∷ three number)

-- The room left

abbrev pub room_words : List ℕ → List ℕ → List ℕ
room_words left capacity = codes "journal: " ++ (left ++ (codes " of " ++ (capacity ++ codes " entries left")))

abbrev pub room_head : ℕ → ℕ → List ℕ
room_head capacity left = room_words (grouped left) (grouped capacity)

-- a unit and how many entries its tasks have added
abbrev pub unit_part : List Shape → List Entry → Shape → List ℕ
unit_part shapes entries shape = shape.name ++ 32 ∷ grouped (added shapes shape.name entries)

-- units one behind another, with these marks before the first, and commas between them
abbrev pub unit_parts : List Shape → List Entry → List ℕ → List Shape → List ℕ
unit_parts shapes entries mark [] = []
unit_parts shapes entries mark (shape ∷ others) =
    mark ++ (unit_part shapes entries shape ++ unit_parts shapes entries (codes ", ") others)

-- the line of a journal's room behind so many entries, with all units in the order of loading
abbrev pub room_line : List Shape → List Entry → ℕ → ℕ → List ℕ
room_line shapes entries capacity used =
    (room_head capacity (capacity - used) ++ unit_parts shapes entries (codes "; ") shapes) ++ 10 ∷ []
