-- What the sections of a script open, and what stands before the first (own).
use Rattle.std.specs.Prelude.{ℕ, ◌+◌, ◌≤◌, ◌^◌, Bool, true, false, if◌then◌else◌, List, [], ◌∷◌, codes, length, Option, Some, None, Result, Ok, Err}
use Rattle.std.specs.Str.{bytes_eq}
use Rattle.std.specs.Str.Lines.{lines}
use Rattle.rv_text.specs.Sections.{SectionText, front_of, sections_of}
use Rattle.rv_text.specs.Words.{words, is_some_word}
use Rattle.rv_script.specs.declared.opening.Opening.{Opening}
use Rattle.rv_script.specs.declared.opening.Opening.TheVariants.{Settings, UnitText, Shape, AccessList, Steps, Journal, Run}

-- what a line opens, byte for byte
abbrev pub opening_of : List ℕ → Option Opening
opening_of line =
    if bytes_eq line (codes "@host.toml") then Some Settings
    else if bytes_eq line (codes "@unit") then Some UnitText
    else if bytes_eq line (codes "@shape") then Some Shape
    else if bytes_eq line (codes "@list") then Some AccessList
    else if bytes_eq line (codes "@steps") then Some Steps
    else if bytes_eq line (codes "@journal") then Some Journal
    else if bytes_eq line (codes "@run") then Some Run
    else None

-- the number of the first line that isn't blank
abbrev pub first_meant : ℕ → List (List ℕ) → Option ℕ
first_meant number [] = None
first_meant number (line ∷ lines) = if is_some_word (words line) then Some number else first_meant (number + 1) lines

-- a script that is opened: its first section, where that holds settings, and the other sections
pub record OpenedText : Type 0 where
  pub settings : Option SectionText
  pub sections : List SectionText

-- a line opens settings
abbrev pub is_settings : Option Opening → Bool
is_settings (Some Settings) = true
is_settings opening = false

-- a first section that holds settings is told apart
abbrev pub parted_by : Bool → SectionText → List SectionText → OpenedText
parted_by true section others = record { settings = Some section; sections = others }
parted_by false section others = record { settings = None; sections = section ∷ others }

-- sections, the first of which is told apart where it holds settings
abbrev pub parted : List SectionText → OpenedText
parted [] = record { settings = None; sections = [] }
parted (section ∷ others) = parted_by (is_settings (opening_of section.opening)) section others

-- nothing stands before the first section
abbrev pub behind_front : Option ℕ → List SectionText → Result OpenedText ℕ
behind_front (Some line) sections = Err line
behind_front None sections = Ok (parted sections)

-- a script opened, or the number of the first line of the text that stands before its first section
abbrev pub opened : List ℕ → Result OpenedText ℕ
opened script = behind_front (first_meant 1 (lines (front_of script))) (sections_of script)

-- the lines of each section have numbers below 2 ^ 63
abbrev pub AreNumbered : List SectionText → Type 0
AreNumbered [] = Unit {0}
AreNumbered (section ∷ sections) = (section.line + length section.text ≤ 2 ^ 63) × AreNumbered sections
