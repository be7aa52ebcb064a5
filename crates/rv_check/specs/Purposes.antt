-- Which command a script is for, and what that command makes of its sections (own).
use Rattle.std.specs.Prelude.{Bool, true, false, List, [], ◌∷◌, Option, Some, None}
use Rattle.rv_text.specs.Sections.{SectionText}
use Rattle.rv_script.specs.Openings.{opening_of}
use Rattle.rv_script.specs.declared.opening.Opening.{Opening}
use Rattle.rv_script.specs.declared.opening.Opening.TheVariants as Openings
use Rattle.rv_check.specs.declared.purpose.Purpose.{Purpose}
use Rattle.rv_check.specs.declared.purpose.Purpose.TheVariants.{Play, Run, Audit}
use Rattle.rv_check.specs.declared.purpose.Role.{Role}
use Rattle.rv_check.specs.declared.purpose.Role.TheVariants.{AsChecked, Steps, Journal, Given, NotTaken, Commands}

-- the command that alone takes a section of an opening
abbrev pub taken_by : Option Opening → Option Purpose
taken_by (Some Openings.Steps) = Some Play
taken_by (Some Openings.Journal) = Some Audit
taken_by (Some Openings.Run) = Some Run
taken_by opening = None

-- the first section that one command alone takes tells which command a script is for; without one it is for `play`
abbrev pub or_later : Option Purpose → Purpose → Purpose
or_later None later = later
or_later (Some purpose) later = purpose

abbrev pub purpose_of : List SectionText → Purpose
purpose_of [] = Play
purpose_of (section ∷ others) = or_later (taken_by (opening_of section.opening)) (purpose_of others)

-- what each command makes of an opening; what isn't named is as `check` has it
abbrev pub role_of : Purpose → Option Opening → Role
role_of Play (Some Openings.Steps) = Steps
role_of Run (Some Openings.Shape) = NotTaken
role_of Run (Some Openings.Run) = Commands
role_of Audit (Some Openings.Shape) = Given
role_of Audit (Some Openings.AccessList) = NotTaken
role_of Audit (Some Openings.Journal) = Journal
role_of purpose opening = AsChecked

abbrev pub role_in : Purpose → SectionText → Role
role_in purpose section = role_of purpose (opening_of section.opening)

-- commands come to the end of the script
abbrev pub is_last : Role → Bool
is_last Commands = true
is_last role = false
