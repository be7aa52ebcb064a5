-- The sections of a script. (own)
use Rattle.std.specs.Prelude.{ℕ, ◌+◌, Bool, true, false, ◌==◌, ◌&&◌, if◌then◌else◌, List, [], ◌∷◌, length}
use Rattle.std.specs.List.{filter, after_first}
use Rattle.std.specs.Str.Lines.{lines}

-- a section: the line of the script that opens it, that line, and the text behind it
pub record SectionText : Type 0 where
  pub line : ℕ
  pub opening : List ℕ
  pub text : List ℕ

-- what stands before the first line that begins with `@`, and what each such line opens, from its `@` on
pub record Cut : Type 0 where
  pub front : List ℕ
  pub parts : List (List ℕ)

abbrev pub onto : Bool → ℕ → Cut → Cut
onto true byte cut = record { front = []; parts = (byte ∷ cut.front) ∷ cut.parts }
onto false byte cut = record { front = byte ∷ cut.front; parts = cut.parts }

-- `start` tells that a line begins here
abbrev pub cut : Bool → List ℕ → Cut
cut start [] = record { front = []; parts = [] }
cut start (byte ∷ bytes) = onto (start && byte == 64) byte (cut (byte == 10) bytes)

abbrev pub is_line_feed : ℕ → Bool
is_line_feed byte = byte == 10

-- how many lines end in a text
abbrev pub lines_ended : List ℕ → ℕ
lines_ended text = length (filter is_line_feed text)

abbrev pub first_line : List (List ℕ) → List ℕ
first_line [] = []
first_line (line ∷ others) = line

-- a part whose `@` stands at this line of the script
abbrev pub section_of : ℕ → List ℕ → SectionText
section_of line part = record { line = line; opening = first_line (lines part); text = after_first is_line_feed part }

-- the sections of parts, the first of which begins at this line
abbrev pub sections_from : ℕ → List (List ℕ) → List SectionText
sections_from line [] = []
sections_from line (part ∷ parts) = section_of line part ∷ sections_from (line + lines_ended part) parts

-- what stands before the first section of a script
abbrev pub front_of : List ℕ → List ℕ
front_of script = (cut true script).front

-- the sections of a script, whose lines are numbered from 1
abbrev pub sections_of : List ℕ → List SectionText
sections_of script = sections_from (1 + lines_ended (front_of script)) (cut true script).parts

-- how many bytes come before the next line that begins with `@`
abbrev pub front_len : Bool → List ℕ → ℕ
front_len start [] = 0
front_len start (byte ∷ bytes) = if start && byte == 64 then 0 else front_len (byte == 10) bytes + 1
