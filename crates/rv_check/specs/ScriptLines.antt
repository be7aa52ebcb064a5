-- The lines of a script with their numbers (own).
use Rattle.std.specs.Prelude.{ℕ, ◌+◌, List, [], ◌∷◌, ◌++◌}
use Rattle.std.specs.List.{flat_map}
use Rattle.std.specs.Str.Lines.{lines}
use Rattle.rv_text.specs.Sections.{SectionText}

-- a line of a script, and its number
pub record LineText : Type 0 where
  pub number : ℕ
  pub text : List ℕ

-- lines, the first of which has this number
abbrev pub numbered : ℕ → List (List ℕ) → List LineText
numbered number [] = []
numbered number (line ∷ others) = record { number = number; text = line } ∷ numbered (number + 1) others

-- the lines of a section, its opening among them
abbrev pub section_lines : SectionText → List LineText
section_lines section = record { number = section.line; text = section.opening } ∷ numbered (section.line + 1) (lines section.text)

-- all lines behind the opening of a section, which others follow
abbrev pub lines_behind : SectionText → List SectionText → List LineText
lines_behind section others = numbered (section.line + 1) (lines section.text) ++ flat_map section_lines others
