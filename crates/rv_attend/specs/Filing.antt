-- What a run writes beside its journal: its units, so that an audit needs nothing else. (own)
use Rattle.std.specs.Prelude.{ℕ, ◌==◌, ◌-◌, Bool, true, false, if◌then◌else◌, List, [], ◌∷◌, ◌++◌, length, slice_index, nat_lt, ◌&&◌, not, codes, Option, Some, None}
use Rattle.rv_text.specs.Sections.{SectionText}
use Rattle.rv_script.specs.Openings.{opening_of}
use Rattle.rv_script.specs.declared.opening.Opening.{Opening}
use Rattle.rv_script.specs.declared.opening.Opening.TheVariants.{Settings, UnitText}

-- settings and units are kept
abbrev pub is_kept : Option Opening → Bool
is_kept (Some Settings) = true
is_kept (Some UnitText) = true
is_kept opening = false

-- whether a text has a line without its line feed
abbrev pub is_open : List ℕ → Bool
is_open text = nat_lt 0 (length text) && not (slice_index text (length text - 1) == 10)

-- a text whose last line has its line feed
abbrev pub ended : List ℕ → List ℕ
ended text = text ++ (if is_open text then 10 ∷ [] else [])

abbrev pub section_text : SectionText → List ℕ
section_text section = section.opening ++ (10 ∷ ended section.text)

-- what is kept of a section
abbrev pub kept_section : SectionText → List ℕ
kept_section section = if is_kept (opening_of section.opening) then section_text section else []

-- what is kept of some, in order
abbrev pub kept_text : List SectionText → List ℕ
kept_text [] = []
kept_text (section ∷ sections) = kept_section section ++ kept_text sections

-- the section of a unit that a command brought
abbrev pub loaded_text : List ℕ → List ℕ
loaded_text text = codes "@unit\n" ++ text
