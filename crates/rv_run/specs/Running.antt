-- A run that comes to its end: its sections are carried out, and then its commands. (own)
use Rattle.std.specs.Prelude.{◌≡◌, ◌⊎◌, ℕ, List, [], Bool, Option, None, Ok, Err}
use Rattle.rv_fault.specs.Sections.{GivesSettings, line_of}
use Rattle.rv_history.specs.Legal.{empty}
use Rattle.rv_history.specs.Limits.{limits_within}
use Rattle.rv_input.specs.Coming.{GivesBefore, IfTold, Reading, coming, most_before}
use Rattle.rv_port.specs.Controls.{IsControlOf}
use Rattle.rv_port.specs.Traces.{Passing}
use Rattle.rv_script.specs.Openings.{OpenedText, opened}
use Rattle.rv_settings.specs.Settings.{SettingsText}
use Rattle.rv_staff.specs.Saying.{Known}
use Rattle.rv_staff.specs.Staffs.{Staffed, no_crew}
use Rattle.rv_run.specs.Finishing.{Plays, Served}
use Rattle.rv_run.specs.Preparing.{Prepares}

-- on a new host within the limits of the settings, whose units may spend so many entries, if that is bounded, the sections of a
-- script are carried out, and then its devices loaded
pub record IsPrepared (allowance : Option ℕ) (script : OpenedText) (settings : SettingsText) (staff : Staffed) : Type 0 where
  pub first : Passing
  pub begins : IsControlOf (empty (limits_within settings.capacity settings.queue_limit allowance)) first
  pub prepared : Prepares first staff.control script.sections (line_of script.settings) settings.devices (Ok tt)
  pub alone : staff.crew ≡ no_crew

-- the same of the bytes of a script, whose settings are those of its text
pub record Opens (allowance : Option ℕ) (bytes : List ℕ) (staff : Staffed) : Type 0 where
  pub script : OpenedText
  pub is_script : opened bytes ≡ Ok script
  pub settings : SettingsText
  pub are_settings : GivesSettings script.settings (Ok settings)
  pub prepared : IsPrepared allowance script settings staff

-- the same, and the journal may have so many entries as its settings say
abbrev pub OpensFor : Option ℕ → List ℕ → Staffed → ℕ → Type 0
OpensFor allowance bytes staff capacity = (opens : Opens allowance bytes staff) × (capacity ≡ opens.settings.capacity)

-- What stands before the line `@run` is a script, which is carried out without a word. Then threads are started, the lines that
-- come are served as commands, the host is halted, its threads are joined, and what it leaves is said.
pub record RunsOn (remaining old new errors errors' : Known) (result : Served) : Type 0 where
  pub bytes : List ℕ
  pub runs : Bool
  pub input : Reading
  pub left : Known
  pub before : IfTold (coming most_before (record { ahead = []; given = 0 }) remaining) (coming most_before input left) (GivesBefore bytes runs)
  pub staff : Staffed
  pub opens : Opens None bytes staff
  pub plays : Plays runs (record { staff = staff; written = old; input = input; left = left }) new errors errors' result

-- the script can't be read, is refused, or memory, a read or a write failed it: no thread is started, and no line named
abbrev pub StopsBefore : Known → Known → Served → Type 0
StopsBefore errors errors' (Ok x) = ⊥
StopsBefore errors errors' (Err failure) = errors' ≡ errors

abbrev pub Runs : Known → Known → Known → Known → Known → Served → Type 0
Runs remaining old new errors errors' result = RunsOn remaining old new errors errors' result ⊎ StopsBefore errors errors' result
