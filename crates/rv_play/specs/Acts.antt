-- What the sections of a script ask, one after another (own). Names are those of the text: whether they are loaded is told
-- by the stage, not here.
use Rattle.std.specs.Prelude.{ℕ, ◌+◌, List, [], ◌∷◌, ◌++◌, replicate, Option, Some, None, Result, Ok, Err}
use Rattle.std.specs.Str.Lines.{lines}
use Rattle.rv_text.specs.Words.{words}
use Rattle.rv_text.specs.Sections.{SectionText}
use Rattle.rv_access.specs.Words.{Words}
use Rattle.rv_access.specs.Reading.{list_of}
use Rattle.rv_access.specs.declared.fault.ListFault.{ListFault}
use Rattle.rv_shape.specs.Shape.{Shape}
use Rattle.rv_shape.specs.ShapeText.{shape_of}
use Rattle.rv_shape.specs.declared.fault.ShapeFault.TheVariants.{BadText}
use Rattle.rv_script.specs.declared.opening.Opening.{Opening}
use Rattle.rv_script.specs.declared.opening.Opening.TheVariants as Openings
use Rattle.rv_script.specs.Openings.{opening_of}
use Rattle.rv_script.specs.UnitTexts.{without_returns}
use Rattle.rv_fault.specs.declared.fault.What.{What}
use Rattle.rv_fault.specs.declared.fault.What.TheVariants as Whats
use Rattle.rv_step.specs.declared.step.Asker.{Asker}
use Rattle.rv_step.specs.declared.step.Asked.{Asked}
use Rattle.rv_step.specs.declared.step.Asked.TheVariants.{Go}
use Rattle.rv_step.specs.StepText.{StepWords, step_of}

-- one act of a script, with the line that a fault of it is told at; a unit text is compiled over the units that are loaded then
pub data Act : Type 0 where
  Loads : ℕ → Shape → Act
  Compiles : ℕ → List ℕ → Act
  Sets : ℕ → List Words → Act
  Steps : ℕ → StepWords → Act
  Goes : ℕ → Asker → Act
  Stops : ℕ → What → Act

-- the line that a fault of an act is told at
abbrev pub line_of : Act → ℕ
line_of (Loads line shape) = line
line_of (Compiles line text) = line
line_of (Sets line list) = line
line_of (Steps line step) = line
line_of (Goes line asker) = line
line_of (Stops line what) = line

-- `go N` is so many requests of the actor's text, one after another
abbrev pub asked_acts : ℕ → Asker → Asked → List Act
asked_acts line asker (Go count) = replicate count (Goes line asker)
asked_acts line asker asked = Steps line (record { asker = asker; asked = asked }) ∷ []

-- a line that is no step stops the script
abbrev pub acts_of : ℕ → Option StepWords → List Act
acts_of line None = Stops line Whats.BadStep ∷ []
acts_of line (Some step) = asked_acts line step.asker step.asked

-- the acts of a line of this number; a blank one has none
abbrev pub line_acts : ℕ → List (List ℕ) → List Act
line_acts number [] = []
line_acts number (word ∷ others) = acts_of number (step_of (word ∷ others))

-- the acts of lines, the first of which has this number
abbrev pub step_acts : ℕ → List (List ℕ) → List Act
step_acts number [] = []
step_acts number (line ∷ others) = line_acts number (words line) ++ step_acts (number + 1) others

-- a text that is no shape stops the script
abbrev pub load_act : ℕ → Option Shape → Act
load_act line None = Stops line (Whats.Shape BadText)
load_act line (Some shape) = Loads line shape

-- a text that is no list stops the script
abbrev pub set_act : ℕ → Result (List Words) ListFault → Act
set_act line (Ok list) = Sets line list
set_act line (Err fault) = Stops line (Whats.List fault)

-- what a section of an opening asks; openings that aren't named here aren't played
abbrev pub acts_in : SectionText → Option Opening → List Act
acts_in section (Some Openings.UnitText) = Compiles section.line (without_returns section.text) ∷ []
acts_in section (Some Openings.Shape) = load_act section.line (shape_of section.text) ∷ []
acts_in section (Some Openings.AccessList) = set_act section.line (list_of section.text) ∷ []
acts_in section (Some Openings.Steps) = step_acts (section.line + 1) (lines section.text)
acts_in section opening = Stops section.line Whats.BadSection ∷ []

-- what a section asks
abbrev pub section_acts : SectionText → List Act
section_acts section = acts_in section (opening_of section.opening)

-- the acts of sections, one after another
abbrev pub acts_from : List SectionText → List Act
acts_from [] = []
acts_from (section ∷ sections) = section_acts section ++ acts_from sections
