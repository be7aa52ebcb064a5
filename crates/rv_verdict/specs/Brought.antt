-- What a script brings to an audit, or what stands against it (own).
use Rattle.std.specs.Prelude.{◌≡◌, ◌⊎◌, ◌≤◌, ◌^◌, ℕ, Bool, true, List, Result, Ok, Err}
use Rattle.rv_shape.specs.Shape.{Shape}
use Rattle.rv_history.specs.declared.limits.Limits.{Limits}
use Rattle.rv_history.specs.Limits.{is_queue_limit, limits_with}
use Rattle.rv_script.specs.Openings.{OpenedText, opened}
use Rattle.rv_settings.specs.Settings.{SettingsText}
use Rattle.rv_fault.specs.Sections.{GivesSettings, line_of}
use Rattle.rv_fault.specs.declared.fault.What.TheVariants.{BadSection}
use Rattle.rv_fault.specs.declared.fault.ScriptFault.{ScriptFault}
use Rattle.rv_fault.specs.declared.failure.Failure.{Failure}
use Rattle.rv_fault.specs.declared.failure.Failure.TheVariants.{Refused, Memory, Io}
use Rattle.rv_verdict.specs.Given.{GivenText, Gathers, nothing, with_devices}

-- the limits, the units, and the journal
pub record Brought : Type 0 where
  pub limits : Limits
  pub units : List Shape
  pub journal : List ℕ

-- the limits are the settings', and the units of their devices come last
abbrev pub brought : SettingsText → GivenText → Brought
brought settings given = record {
  limits = limits_with settings.capacity settings.queue_limit;
  units = with_devices given.units settings.devices;
  journal = given.journal;
}

-- what a script that is opened brings; a fault of its settings comes before one of its other sections
abbrev pub BringsOpened : Bool → OpenedText → Result Brought ScriptFault → Type 0
BringsOpened has_journal script (Ok found) =
    (settings : SettingsText) × (given : GivenText) × GivesSettings script.settings (Ok settings)
    × Gathers has_journal nothing script.sections (Ok given) × (found ≡ brought settings given)
BringsOpened has_journal script (Err told) =
    (GivesSettings script.settings (Err told.what) × (told.line ≡ line_of script.settings))
    ⊎ ((settings : SettingsText) × GivesSettings script.settings (Ok settings) × Gathers has_journal nothing script.sections (Err told))

-- text before the first section is no section
abbrev pub brings_by : Bool → Result OpenedText ℕ → Result Brought ScriptFault → Type 0
brings_by has_journal (Ok script) found = BringsOpened has_journal script found
brings_by has_journal (Err line) found = found ≡ Err (record { line = line; what = BadSection })

-- what a script brings, its journal taken only where `has_journal`
abbrev pub Brings : Bool → List ℕ → Result Brought ScriptFault → Type 0
Brings has_journal script = brings_by has_journal (opened script)

-- limits that a host may have
pub record AreLimits (limits : Limits) : Type 0 where
  pub least : 16 ≤ limits.capacity
  pub most : limits.capacity ≤ 2 ^ 20
  pub queue : is_queue_limit limits.queue ≡ true

-- a call gives what a script brings, unless memory ran out
abbrev pub GivesScript : Bool → List ℕ → Result (Limits × GivenText) Failure → Type 0
GivesScript has_journal script (Ok found) =
    AreLimits found.0
    × Brings has_journal script (Ok (record { limits = found.0; units = found.1.units; journal = found.1.journal }))
GivesScript has_journal script (Err (Refused told)) = Brings has_journal script (Err told)
GivesScript has_journal script (Err Memory) = Unit {0}
GivesScript has_journal script (Err (Io error)) = ⊥
