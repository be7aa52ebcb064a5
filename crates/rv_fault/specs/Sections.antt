-- What the text of a section gives, and what stands against it (own).
use Rattle.std.specs.Prelude.{◌≡◌, ◌<◌, ◌≤◌, ℕ, true, List, [], ◌∷◌, length, Option, Some, None, Result, Ok, Err}
use Rattle.rv_text.specs.Sections.{SectionText}
use Rattle.rv_access.specs.Words.{Words}
use Rattle.rv_access.specs.declared.fault.ListFault.{ListFault}
use Rattle.rv_shape.specs.Shape.{Shape}
use Rattle.rv_shape.specs.declared.fault.ShapeFault.TheVariants.{BadText}
use Rattle.rv_code.specs.BodyView.{unit_view}
use Rattle.rv_fits.specs.Fits.{are_of}
use Rattle.rv_unit.specs.Compiles.{IsCompiled, IsRefused as IsNoUnit}
use Rattle.rv_unit.specs.declared.fault.UnitFault.TheVariants.{NoMemory as NoRoom}
use Rattle.rv_code.specs.declared.unit.Unit.{Unit as Compiled}
use Rattle.rv_script.specs.UnitTexts.{most_unit_bytes}
use Rattle.rv_settings.specs.Settings.{DeviceText, SettingsText, IsSettings, IsRefused, default_settings}
use Rattle.rv_settings.specs.declared.fault.SettingsFault.TheVariants.{NoMemory}
use Rattle.rv_fault.specs.declared.failure.Failure.{Failure}
use Rattle.rv_fault.specs.declared.failure.Failure.TheVariants.{Refused, Memory, Io}
use Rattle.rv_fault.specs.declared.fault.What.{What}
use Rattle.rv_fault.specs.declared.fault.What.TheVariants as Whats

-- what a text gives: a value, or what stands against it
abbrev pub Giving : Type 0 → Type 1
Giving A = Result A What → Type 0

-- a text, which has no carriage return before a line feed, is a unit over those that are loaded, with which its bodies may be
-- loaded; one that is too long is refused whatever its words
abbrev pub GivesUnit : List Shape → List ℕ → Giving Compiled
GivesUnit shapes text (Ok unit) =
    (length text ≤ most_unit_bytes) × IsCompiled shapes text unit.shape (unit_view unit.bodies) × (are_of shapes unit.shape (unit_view unit.bodies) ≡ true)
GivesUnit shapes text (Err Whats.TooLong) = most_unit_bytes < length text
GivesUnit shapes text (Err (Whats.Unit told)) =
    (length text ≤ most_unit_bytes) × IsNoUnit shapes text told × (told ≡ NoRoom → ⊥)
GivesUnit shapes text (Err what) = ⊥

-- the shape of a text, if it is one
abbrev pub if_shape : Option Shape → Result Shape What
if_shape None = Err (Whats.Shape BadText)
if_shape (Some shape) = Ok shape

-- the list of a text, or its fault
abbrev pub if_list : Result (List Words) ListFault → Result (List Words) What
if_list (Ok list) = Ok list
if_list (Err fault) = Err (Whats.List fault)

-- this, and nothing else
abbrev pub Just : {A : Type 0} → Result A What → Giving A
Just due found = found ≡ due

-- the settings of a text; where a script has none, those for which nothing is set
abbrev pub GivesSettings : Option SectionText → Giving SettingsText
GivesSettings None found = found ≡ Ok default_settings
GivesSettings (Some section) (Ok settings) = IsSettings section.text settings
GivesSettings (Some section) (Err (Whats.Settings told)) = IsRefused section.text told × (told ≡ NoMemory → ⊥)
GivesSettings (Some section) (Err what) = ⊥

-- a call reads what the text of a section gives, or tells what stands against it at the line of the section's opening, unless
-- memory ran out
abbrev pub Reads : {A : Type 0} → ℕ → Giving A → Result A Failure → Type 0
Reads line gives (Ok found) = gives (Ok found)
Reads line gives (Err (Refused told)) = gives (Err told.what) × (told.line ≡ line)
Reads line gives (Err Memory) = Unit {0}
Reads line gives (Err (Io error)) = ⊥

-- the line that faults of settings are told at
abbrev pub line_of : Option SectionText → ℕ
line_of None = 1
line_of (Some section) = section.line

-- the unit that a device is: one task, and no objects
abbrev pub device_shape : DeviceText → Shape
device_shape device = record {
  name = device.unit;
  tasks = (record { name = device.task; priority = device.priority }) ∷ [];
  objects = [];
}
