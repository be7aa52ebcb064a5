-- A whole script that is looked at, its steps, its commands or its journal too: what is said of its sections, and what stands
-- against them (own).
use Rattle.std.specs.Prelude.{◌≡◌, ◌⊎◌, Bool, true, false, ℕ, ◌+◌, List, [], ◌∷◌, ◌++◌, length, codes, Option, Some, None}
use Rattle.std.specs.Fmt.{decimal}
use Rattle.std.specs.Str.Lines.{lines}
use Rattle.rv_text.specs.Sections.{SectionText}
use Rattle.rv_shape.specs.Shape.{Shape}
use Rattle.rv_shape.specs.ShapeText.{shape_of}
use Rattle.rv_shape.specs.Fits.{fault}
use Rattle.rv_shape.specs.declared.fault.ShapeFault.{ShapeFault}
use Rattle.rv_shape.specs.declared.fault.ShapeFault.TheVariants.{BadText}
use Rattle.rv_script.specs.Openings.{OpenedText}
use Rattle.rv_settings.specs.Settings.{DeviceText, SettingsText}
use Rattle.rv_fault.specs.Sections.{line_of}
use Rattle.rv_fault.specs.declared.fault.What.TheVariants as Whats
use Rattle.rv_fault.specs.Written.{Outcome}
use Rattle.rv_check.specs.Checks.{Judging, OfSection, Telling, at_line, outcome_by, outcome_of, shape_line}
use Rattle.rv_check.specs.CommandLines.{TakesAll, before_commands}
use Rattle.rv_check.specs.ScriptLines.{lines_behind}
use Rattle.rv_check.specs.DeviceFaults.{devices_fault, with_devices}
use Rattle.rv_check.specs.StepFaults.{steps_count, steps_fault}
use Rattle.rv_check.specs.Purposes.{is_last, role_in, purpose_of}
use Rattle.rv_check.specs.declared.purpose.Purpose.{Purpose}
use Rattle.rv_check.specs.declared.purpose.Role.{Role}
use Rattle.rv_check.specs.declared.purpose.Role.TheVariants.{AsChecked, Steps, Journal, Given, NotTaken, Commands}

-- the lines that are said
abbrev pub steps_line : ℕ → List ℕ
steps_line count = codes "steps: ok " ++ (decimal count ++ (codes " steps" ++ 10 ∷ []))

abbrev pub journal_line : ℕ → List ℕ
journal_line count = codes "journal: " ++ (decimal count ++ (codes " lines" ++ 10 ∷ []))

abbrev pub commands_line : ℕ → List ℕ
commands_line count = codes "commands: ok " ++ (decimal count ++ (codes " commands" ++ 10 ∷ []))

-- a section that the command doesn't take
abbrev pub IsNotTaken : SectionText → Telling
IsNotTaken section said told = (said ≡ []) × (told ≡ Some (record { line = section.line; what = Whats.BadSection }))

-- steps, over the units that are loaded
abbrev pub OfSteps : List Shape → SectionText → Telling
OfSteps shapes section said None = (steps_fault shapes (section.line + 1) (lines section.text) ≡ None) × (said ≡ steps_line (steps_count (lines section.text)))
OfSteps shapes section said (Some told) = (steps_fault shapes (section.line + 1) (lines section.text) ≡ Some told) × (said ≡ [])

-- a journal, of which the lines are counted alone
abbrev pub OfJournal : SectionText → Telling
OfJournal section said told = (said ≡ journal_line (length (lines section.text))) × (told ≡ None)

-- a unit behind those that fit, where it does too
abbrev pub fitted : Option ShapeFault → List Shape → Shape → List Shape
fitted None shapes shape = shapes ++ shape ∷ []
fitted (Some told) shapes shape = shapes

-- a shape for an audit, where whether it fits is judged at the entry that loads it
abbrev pub as_given : List Shape → List Shape → ℕ → Option Shape → Telling
as_given shapes after line None said told = (said ≡ []) × (told ≡ Some (record { line = line; what = Whats.Shape BadText }))
as_given shapes after line (Some shape) said told =
    (said ≡ shape_line shape.name) × (told ≡ None) × (after ≡ fitted (fault shapes shape) shapes shape)

-- a section in a role
abbrev pub OfRole : Role → List Shape → List Shape → SectionText → Telling
OfRole AsChecked shapes after section = at_line section.line (OfSection shapes after section)
OfRole Steps shapes after section = λ said told. OfSteps shapes section said told × (after ≡ shapes)
OfRole Journal shapes after section = λ said told. OfJournal section said told × (after ≡ shapes)
OfRole Given shapes after section = as_given shapes after section.line (shape_of section.text)
OfRole NotTaken shapes after section = IsNotTaken section
OfRole Commands shapes after section = λ said told. ⊥

-- from there on the devices are loaded, whose settings open at a line, and then commands are read
abbrev pub OfRun : ℕ → List DeviceText → List Shape → SectionText → List SectionText → Telling
OfRun line devices shapes section others said None =
    (devices_fault shapes devices ≡ None)
    × (count : ℕ) × TakesAll (before_commands (with_devices shapes devices)) (lines_behind section others) count None
    × (said ≡ commands_line count)
OfRun line devices shapes section others said (Some told) =
    (said ≡ [])
    × (((devices_fault shapes devices ≡ Some told.what) × (told.line ≡ line))
    ⊎ ((devices_fault shapes devices ≡ None)
    × (count : ℕ) × TakesAll (before_commands (with_devices shapes devices)) (lines_behind section others) count (Some told)))

-- how the sections of a script are judged that is for a command
abbrev pub judging : Purpose → ℕ → List DeviceText → Judging
judging purpose line devices = record {
  Section = λ shapes after section. OfRole (role_in purpose section) shapes after section;
  is_last = λ section. is_last (role_in purpose section);
  Rest = OfRun line devices;
}

abbrev pub judged : OpenedText → SettingsText → Judging
judged script settings = judging (purpose_of script.sections) (line_of script.settings) settings.devices

-- what there is to write of a whole script
abbrev pub outcome_of_whole : List ℕ → Outcome
outcome_of_whole = outcome_by judged

-- of a script that is looked at whole, or else section by section
abbrev pub outcome_when : Bool → List ℕ → Outcome
outcome_when true = outcome_of_whole
outcome_when false = outcome_of
