-- What a script opens.
use Rattle.std.proofs.Common.{◌≡◌, ℕ, Bool, List, [], Option, None, Ok, Err, IfOk, inl, sym, ap, subst}
use Rattle.std.specs.Prelude.{Result}
use Rattle.rv_fault.specs.Sections.{GivesSettings, line_of}
use Rattle.rv_history.specs.Legal.{empty}
use Rattle.rv_history.specs.Limits.{limits_within}
use Rattle.rv_input.specs.Coming.{GivesBefore, IfTold, Reading, coming, most_before}
use Rattle.rv_port.specs.Traces.{Passing}
use Rattle.rv_script.specs.Openings.{OpenedText, opened}
use Rattle.rv_settings.specs.Settings.{SettingsText}
use Rattle.rv_staff.specs.Saying.{Known}
use Rattle.rv_staff.specs.Staffs.{Staffed, no_crew}
use Rattle.rv_run.specs.Finishing.{Plays, Served}
use Rattle.rv_run.specs.Preparing.{Prepares}
use Rattle.rv_port.specs.Controls.{IsControlOf}
use Rattle.rv_run.specs.Running.{IsPrepared, Opens, OpensFor, Runs}

pub is_prepared : (allowance : Option ℕ) (script : OpenedText) (settings : SettingsText) (first control : Passing) (staff : Staffed)
    → IsControlOf (empty (limits_within settings.capacity settings.queue_limit allowance)) first
    → Prepares first control script.sections (line_of script.settings) settings.devices (Ok tt)
    → staff ≡ record { control = control; crew = no_crew } → IsPrepared allowance script settings staff
is_prepared allowance script settings first control staff begins prepared is = record {
  first = first;
  begins = begins;
  prepared = subst (λ (s : Staffed). Prepares first s.control script.sections (line_of script.settings) settings.devices (Ok tt)) (sym is) prepared;
  alone = ap (λ (s : Staffed). s.crew) is;
}

pub opens_for : (allowance : Option ℕ) (bytes text : List ℕ) (script : OpenedText) (settings : SettingsText) (staff : Staffed) (capacity : ℕ) → text ≡ bytes → opened text ≡ Ok script
    → GivesSettings script.settings (Ok settings) → IsPrepared allowance script settings staff → capacity ≡ settings.capacity → OpensFor allowance bytes staff capacity
opens_for allowance bytes text script settings staff capacity same is are prepared long = (
  record {
    script = script;
    is_script = subst (λ (t : List ℕ). opened t ≡ Ok script) same is;
    settings = settings;
    are_settings = are;
    prepared = prepared;
  },
  long,
)

pub both_ok : {X E : Type 0} (result : Result X E) (P Q R : X → Type 0) → ((x : X) → P x → Q x → R x) → IfOk result P → IfOk result Q → IfOk result R
both_ok (Ok x) P Q R join first second = join x first second
both_ok (Err error) P Q R join first second = tt

-- what comes behind a script that was opened without a word
pub runs_on : (remaining old new errors errors' : Known) (result : Served) (bytes slice : List ℕ) (runs : Bool) (first input : Reading) (left silent : Known) (staff : Staffed)
    → first ≡ record { ahead = []; given = 0 } → IfTold (coming most_before first remaining) (coming most_before input left) (GivesBefore bytes runs)
    → slice ≡ bytes → Opens None slice staff → silent ≡ old → Plays runs (record { staff = staff; written = silent; input = input; left = left }) new errors errors' result
    → Runs remaining old new errors errors' result
runs_on remaining old new errors errors' result bytes slice runs first input left silent staff is before same opens still plays = inl record {
  bytes = bytes;
  runs = runs;
  input = input;
  left = left;
  before = subst (λ (r : Reading). IfTold (coming most_before r remaining) (coming most_before input left) (GivesBefore bytes runs)) is before;
  staff = staff;
  opens = subst (λ (b : List ℕ). Opens None b staff) same opens;
  plays = subst (λ (w : Known). Plays runs (record { staff = staff; written = w; input = input; left = left }) new errors errors' result) still plays;
}
