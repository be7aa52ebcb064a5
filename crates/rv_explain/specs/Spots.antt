-- Where in a script a byte of a section's text stands (own).
use Rattle.std.specs.Prelude.{◌≡◌, ◌⊎◌, ℕ, ◌+◌, ◌≤◌, Bool, ◌||◌, nat_lt, nat_le, List, [], ◌∷◌, ◌++◌, length, take, count_by}
use Rattle.std.specs.Str.Lines.{lines}
use Rattle.rv_text.specs.Sections.{SectionText}

-- the lines of a section, its opening first
abbrev pub lines_of : SectionText → List (List ℕ)
lines_of section = section.opening ∷ lines section.text

-- how many bytes lines take, each with its line feed
abbrev pub total : List (List ℕ) → ℕ
total [] = 0
total (line ∷ lines) = length line + 1 + total lines

-- so many bytes of this line stand before the place, and the lines `before` with them come to `bytes` bytes; behind the last line
-- feed there is no line, and the place is shown at the end of the last line
abbrev pub IsReached : List (List ℕ) → List (List ℕ) → List ℕ → ℕ → ℕ → Type 0
IsReached before behind line offset bytes =
    ((offset ≤ length line) × (total before + offset ≡ bytes))
    ⊎ ((behind ≡ []) × (offset ≡ length line) × (total before + offset + 1 ≡ bytes))

-- the byte of this number, from 0, of a section's text stands on this line of the script, behind so many bytes of it
pub record StandsAt (section : SectionText) (at number : ℕ) (line : List ℕ) (offset : ℕ) : Type 0 where
  pub before : List (List ℕ)
  pub behind : List (List ℕ)
  pub among : lines_of section ≡ before ++ line ∷ behind
  pub counted : number ≡ section.line + length before
  pub reached : IsReached before behind line offset (length section.opening + 1 + at)

-- the line of this number, from 1, of a script
pub record IsLine (script : List ℕ) (number : ℕ) (line : List ℕ) : Type 0 where
  pub before : List (List ℕ)
  pub behind : List (List ℕ)
  pub among : lines script ≡ before ++ line ∷ behind
  pub counted : number ≡ length before + 1

-- a byte that begins a character of UTF-8
abbrev pub begins_character : ℕ → Bool
begins_character byte = nat_lt byte 128 || nat_le 192 byte

-- the column of a place behind so many bytes of a line, in characters from 1; a tab is one
abbrev pub column_of : List ℕ → ℕ → ℕ
column_of line offset = 1 + count_by begins_character (take offset line)
