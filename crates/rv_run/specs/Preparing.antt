-- What the sections of a script and its devices ask of the host, in order, up to the first fault. (own)
use Rattle.std.specs.Prelude.{◌≡◌, ◌⊎◌, ℕ, List, [], ◌∷◌, Option, Some, None, Result, Ok, Err, MatchResult}
use Rattle.rv_access.specs.Reading.{list_of}
use Rattle.rv_access.specs.Words.{Words}
use Rattle.rv_access.specs.declared.change.Change.TheVariants as Changes
use Rattle.rv_code.specs.BodyView.{unit_view}
use Rattle.rv_code.specs.declared.unit.Unit.{Unit as Compiled}
use Rattle.rv_event.specs.declared.entry.Answer.{Answer}
use Rattle.rv_event.specs.declared.entry.Answer.TheVariants.{OutOfMemory}
use Rattle.rv_turn.specs.Passes.{IsWorn}
use Rattle.rv_turn.specs.declared.pass.Worn.{Worn}
use Rattle.rv_behind.specs.Events.{catalogue_of}
use Rattle.rv_port.specs.Traces.{Passing}
use Rattle.rv_port.specs.Controls.{LoadTold, Told, no_bodies_of}
use Rattle.rv_behind.specs.declared.event.Ask.{Ask}
use Rattle.rv_fault.specs.Devices.{RefusesDevice, device_fault}
use Rattle.rv_fault.specs.Sections.{GivesUnit, Just, Reads, device_shape, if_list}
use Rattle.rv_fault.specs.declared.failure.Failure.{Failure}
use Rattle.rv_fault.specs.declared.failure.Failure.TheVariants.{Refused, Memory, Io}
use Rattle.rv_fault.specs.declared.fault.What.{What}
use Rattle.rv_fault.specs.declared.fault.What.TheVariants as Whats
use Rattle.rv_script.specs.Openings.{opening_of}
use Rattle.rv_script.specs.UnitTexts.{without_returns}
use Rattle.rv_script.specs.declared.opening.Opening.{Opening}
use Rattle.rv_script.specs.declared.opening.Opening.TheVariants.{UnitText, AccessList}
use Rattle.rv_settings.specs.Settings.{DeviceText}
use Rattle.rv_text.specs.Sections.{SectionText}
use Rattle.rv_shape.specs.Shape.{Shape}
use Rattle.rv_run.specs.Commanding.{LoadsIn}

-- how sections are carried out: to their end, or up to the first that fails
abbrev pub Done : Type 0
Done = Result (Unit {0}) Failure

-- want of memory for a request ends the run; any other answer is let be
abbrev pub HeardAnswer : Answer → Done → Type 0
HeardAnswer OutOfMemory result = result ≡ Err Memory
HeardAnswer answer result = result ≡ Ok tt

abbrev pub Heard : Result Answer Worn → Done → Type 0
Heard (Ok answer) result = HeardAnswer answer result
Heard (Err worn) result = result ≡ Ok tt

-- the same where something is kept of what was loaded, which takes memory
abbrev pub KeptAnswer : Answer → Done → Type 0
KeptAnswer OutOfMemory result = result ≡ Err Memory
KeptAnswer answer result = (result ≡ Ok tt) ⊎ (result ≡ Err Memory)

abbrev pub HeardOf : Result Answer Worn → Done → Type 0
HeardOf (Ok answer) result = KeptAnswer answer result
HeardOf (Err worn) result = result ≡ Ok tt

-- nothing is asked, for this reason
abbrev pub AsksNothing : Passing → Passing → Failure → Done → Type 0
AsksNothing v w failure result = (w ≡ v) × (result ≡ Err failure)

-- the unit of a text is loaded, once
abbrev pub LoadsRead : Passing → Passing → Result Compiled Failure → Done → Type 0
LoadsRead v w (Ok unit) result = (answer : Result Answer Worn) × LoadsIn v unit.shape unit.bodies answer w × Heard answer result
LoadsRead v w (Err failure) result = AsksNothing v w failure result

-- a section of a unit text at a line
abbrev pub LoadsSection : Passing → Passing → ℕ → List ℕ → Done → Type 0
LoadsSection v w line text result =
    (read : Result Compiled Failure) × Reads line (GivesUnit (catalogue_of v.seen) (without_returns text)) read × LoadsRead v w read result

-- the list of a text is set, once
abbrev pub SetsRead : Passing → Passing → Result (List Words) Failure → Done → Type 0
SetsRead v w (Ok list) result =
    (answer : Result Answer Worn)
    × MatchResult answer (λ r. Told v (Ask.Change (Changes.Whole list)) r w) (λ _. IsWorn v w)
    × Heard answer result
SetsRead v w (Err failure) result = AsksNothing v w failure result

-- a section of a list at a line
abbrev pub SetsSection : Passing → Passing → ℕ → List ℕ → Done → Type 0
SetsSection v w line text result =
    (read : Result (List Words) Failure) × Reads line (Just (if_list (list_of text))) read × SetsRead v w read result

-- a fault at a line
abbrev pub at_line : ℕ → What → Failure
at_line line what = Refused (record { line = line; what = what })

-- by what it opens; units and lists alone may stand there
abbrev pub CarriesOutAs : Option Opening → Passing → Passing → SectionText → Done → Type 0
CarriesOutAs (Some UnitText) v w section result = LoadsSection v w section.line section.text result
CarriesOutAs (Some AccessList) v w section result = SetsSection v w section.line section.text result
CarriesOutAs opening v w section result = AsksNothing v w (at_line section.line Whats.BadSection) result

abbrev pub CarriesOut : Passing → Passing → SectionText → Done → Type 0
CarriesOut v w section result = CarriesOutAs (opening_of section.opening) v w section result

-- sections are carried out one after another, up to the first that fails
abbrev pub CarriesOutAll : Passing → Passing → List SectionText → Done → Type 0
CarriesOutAll v w [] result = (w ≡ v) × (result ≡ Ok tt)
CarriesOutAll v w (section ∷ sections) (Ok x) = (u : Passing) × CarriesOut v u section (Ok tt) × CarriesOutAll u w sections (Ok x)
CarriesOutAll v w (section ∷ sections) (Err failure) =
    CarriesOut v w section (Err failure) ⊎ ((u : Passing) × CarriesOut v u section (Ok tt) × CarriesOutAll u w sections (Err failure))

-- Devices

-- the unit of a device is loaded, once, and its job is kept
abbrev pub LoadsUnitOf : Passing → Passing → DeviceText → Done → Type 0
LoadsUnitOf v w device result =
    (answer : Result Answer Worn)
    × MatchResult answer (λ r. LoadTold v (device_shape device) (λ u. unit_view u ≡ no_bodies_of (device_shape device)) r w) (λ _. IsWorn v w)
    × HeardOf answer result

abbrev pub LoadsDevice : Passing → Passing → ℕ → DeviceText → Done → Type 0
LoadsDevice v w line device result =
    ((device_fault (catalogue_of v.seen) device ≡ None) × LoadsUnitOf v w device result)
    ⊎ ((failure : Failure) × RefusesDevice line (catalogue_of v.seen) device failure × AsksNothing v w failure result)

-- devices are loaded one after another, up to the first that fails
abbrev pub LoadsDevices : Passing → Passing → ℕ → List DeviceText → Done → Type 0
LoadsDevices v w line [] result = (w ≡ v) × (result ≡ Ok tt)
LoadsDevices v w line (device ∷ devices) (Ok x) = (u : Passing) × LoadsDevice v u line device (Ok tt) × LoadsDevices u w line devices (Ok x)
LoadsDevices v w line (device ∷ devices) (Err failure) =
    LoadsDevice v w line device (Err failure) ⊎ ((u : Passing) × LoadsDevice v u line device (Ok tt) × LoadsDevices u w line devices (Err failure))

-- Both

-- behind sections that were carried out the devices are loaded
abbrev pub ThenLoads : Passing → Passing → ℕ → List DeviceText → Done → Done → Type 0
ThenLoads v w line devices (Ok x) result = LoadsDevices v w line devices result
ThenLoads v w line devices (Err failure) result = AsksNothing v w failure result

abbrev pub Prepares : Passing → Passing → List SectionText → ℕ → List DeviceText → Done → Type 0
Prepares v w sections line devices result =
    (u : Passing) × (carried : Done) × CarriesOutAll v u sections carried × ThenLoads u w line devices carried result
