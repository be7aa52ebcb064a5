-- The sections of a script that is checked: what is said of each, or what stands against it (own).
use Rattle.std.specs.Prelude.{◌≡◌, ◌⊎◌, Bool, true, false, ◌<◌, ◌≤◌, ℕ, List, [], ◌∷◌, ◌++◌, ◌+◌, length, take, codes, Option, Some, None, IfSome, Result, Ok, Err}
use Rattle.std.specs.Fmt.{decimal}
use Rattle.std.specs.Io.KnownBytes.{Appends}
use Rattle.rv_text.specs.Sections.{SectionText}
use Rattle.rv_access.specs.Reading.{list_of}
use Rattle.rv_access.specs.Words.{Words}
use Rattle.rv_access.specs.declared.fault.ListFault.{ListFault}
use Rattle.rv_shape.specs.Shape.{Shape}
use Rattle.rv_shape.specs.ShapeText.{shape_of}
use Rattle.rv_shape.specs.Fits.{fault}
use Rattle.rv_shape.specs.declared.fault.ShapeFault.{ShapeFault}
use Rattle.rv_shape.specs.declared.fault.ShapeFault.TheVariants.{BadText}
use Rattle.rv_shape.specs.declared.fault.ShapeFault.TheVariants as Shapes
use Rattle.rv_code.specs.Bodies.{UnitBodies}
use Rattle.rv_unit.specs.Compiles.{IsCompiled, IsRefused as IsNoUnit}
use Rattle.rv_unit.specs.declared.fault.UnitFault.TheVariants as Units
use Rattle.rv_script.specs.Openings.{OpenedText, opened, opening_of}
use Rattle.rv_script.specs.Prefixes.{WritesPrefix}
use Rattle.rv_script.specs.Whole.{most_bytes}
use Rattle.rv_script.specs.UnitTexts.{most_unit_bytes, without_returns}
use Rattle.rv_script.specs.declared.opening.Opening.{Opening}
use Rattle.rv_script.specs.declared.opening.Opening.TheVariants as Openings
use Rattle.rv_settings.specs.Settings.{SettingsText}
use Rattle.rv_fault.specs.declared.failure.Failure.{Failure}
use Rattle.rv_fault.specs.declared.failure.Failure.TheVariants.{Refused, Memory, Io}
use Rattle.rv_fault.specs.declared.fault.What.{What}
use Rattle.rv_fault.specs.declared.fault.What.TheVariants as Whats
use Rattle.rv_fault.specs.declared.fault.ScriptFault.{ScriptFault}
use Rattle.rv_fault.specs.Sections.{GivesSettings, line_of}
use Rattle.rv_fault.specs.Written.{Known, Ended, Outcome}

-- the lines that are said of sections that are well formed
abbrev pub unit_line : List ℕ → List ℕ
unit_line name = codes "unit " ++ (name ++ (codes ": ok" ++ 10 ∷ []))

abbrev pub shape_line : List ℕ → List ℕ
shape_line name = codes "shape " ++ (name ++ (codes ": ok" ++ 10 ∷ []))

abbrev pub list_line : ℕ → List ℕ
list_line count = codes "list: ok " ++ (decimal count ++ (codes " lines" ++ 10 ∷ []))

-- what is said of a section, and what stands against it
abbrev pub Finding : Type 1
Finding = List ℕ → Option What → Type 0

-- a unit fits those of the sections before, and stands behind them from then on
abbrev pub Adds : List Shape → List Shape → Shape → Finding
Adds shapes after shape said None = (said ≡ unit_line shape.name) × (after ≡ shapes ++ shape ∷ [])
Adds shapes after shape said (Some what) = ⊥

-- a text is a unit of this shape, and its bodies are compiled
abbrev pub Compiles : List Shape → List ℕ → Shape → Type 0
Compiles shapes text shape = (code : UnitBodies) × IsCompiled shapes text shape code

-- a unit text, which has no carriage return before a line feed, gives a unit that fits; one that is too long is refused whatever its words
abbrev pub OfUnit : List Shape → List Shape → List ℕ → Finding
OfUnit shapes after text said None = (shape : Shape) × (length text ≤ most_unit_bytes) × Compiles shapes text shape × Adds shapes after shape said None
OfUnit shapes after text said (Some Whats.TooLong) = (most_unit_bytes < length text) × (said ≡ [])
OfUnit shapes after text said (Some (Whats.Unit told)) = (length text ≤ most_unit_bytes) × IsNoUnit shapes text told × (told ≡ Units.NoMemory → ⊥) × (said ≡ [])
OfUnit shapes after text said (Some what) = ⊥

-- a shape fits those of the sections before, and stands behind them from then on
abbrev pub fitting : List Shape → List Shape → Shape → Option ShapeFault → Finding
fitting shapes after shape None said what = (what ≡ None) × (said ≡ shape_line shape.name) × (after ≡ shapes ++ shape ∷ [])
fitting shapes after shape (Some told) said what = (what ≡ Some (Whats.Shape told)) × (said ≡ [])

abbrev pub as_shape : List Shape → List Shape → Option Shape → Finding
as_shape shapes after None said what = (what ≡ Some (Whats.Shape BadText)) × (said ≡ [])
as_shape shapes after (Some shape) said what = fitting shapes after shape (fault shapes shape) said what

abbrev pub OfShape : List Shape → List Shape → List ℕ → Finding
OfShape shapes after text = as_shape shapes after (shape_of text)

-- a list has its lines
abbrev pub as_list : Result (List Words) ListFault → Finding
as_list (Ok list) said what = (what ≡ None) × (said ≡ list_line (length list))
as_list (Err told) said what = (what ≡ Some (Whats.List told)) × (said ≡ [])

abbrev pub OfList : List ℕ → Finding
OfList text = as_list (list_of text)

-- a section behind the settings, on the shapes of those before, and the shapes that there are then; openings that aren't named
-- here aren't checked
abbrev pub as_section : List Shape → List Shape → List ℕ → Option Opening → Finding
as_section shapes after text (Some Openings.UnitText) said what = OfUnit shapes after (without_returns text) said what
as_section shapes after text (Some Openings.Shape) said what = OfShape shapes after text said what
as_section shapes after text (Some Openings.AccessList) said what = OfList text said what × (after ≡ shapes)
as_section shapes after text opening said what = (what ≡ Some Whats.BadSection) × (said ≡ [])

abbrev pub OfSection : List Shape → List Shape → SectionText → Finding
OfSection shapes after section = as_section shapes after section.text (opening_of section.opening)

-- why a shape doesn't fit whose section opens at a line
abbrev pub shape_failure : ℕ → ShapeFault → Failure
shape_failure line Shapes.NoMemory = Memory
shape_failure line told = Refused (record { line = line; what = Whats.Shape told })

-- what is said of a section, or of all that is left, and what is told
abbrev pub Telling : Type 1
Telling = List ℕ → Option ScriptFault → Type 0

-- so it is of a finding whose fault is told at a line
abbrev pub at_line : ℕ → Finding → Telling
at_line line finds said None = finds said None
at_line line finds said (Some told) = finds said (Some told.what) × (told.line ≡ line)

-- a prefix of what is to be said is written, or nothing yet
abbrev pub WritesPart : Known → Known → Telling → Type 0
WritesPart old new tells = (new ≡ old) ⊎ ((said : List ℕ) × tells said None × WritesPrefix old new said)

-- what is to be said is written, or a fault is told
abbrev pub WritesOne : Known → Known → Telling → Ended → Type 0
WritesOne old new tells (Ok x) = (said : List ℕ) × tells said None × Appends old new said
WritesOne old new tells (Err (Refused told)) = tells [] (Some told) × (new ≡ old)
WritesOne old new tells (Err Memory) = WritesPart old new tells
WritesOne old new tells (Err (Io error)) = WritesPart old new tells

-- how sections are judged: each over the units before it, with those behind it; and, from a last section on, all that is left
pub record Judging : Type 1 where
  pub Section : List Shape → List Shape → SectionText → Telling
  pub is_last : SectionText → Bool
  pub Rest : List Shape → SectionText → List SectionText → Telling

-- `check` looks at each section, to the end
abbrev pub checking : Judging
checking = record {
  Section = λ shapes after section. at_line section.line (OfSection shapes after section);
  is_last = λ section. false;
  Rest = λ shapes section others said told. ⊥;
}

-- what holds from a last section on, and what else
abbrev pub by_last : Bool → Type 0 → Type 0 → Type 0
by_last true rest section = rest
by_last false rest section = section

-- sections in turn: what is said of them, up to the first that something stands against, which is told
abbrev pub Checks : Judging → List Shape → List SectionText → List ℕ → Option ScriptFault → Type 0
Checks by shapes [] said told = (said ≡ []) × (told ≡ None)
Checks by shapes (section ∷ others) said told = by_last (by.is_last section) (by.Rest shapes section others said told)
    (((fault : ScriptFault) × (after : List Shape) × by.Section shapes after section [] (Some fault) × (said ≡ []) × (told ≡ Some fault))
    ⊎ ((line more : List ℕ) × (after : List Shape) × by.Section shapes after section line None × Checks by after others more told × (said ≡ line ++ more)))

-- what is said of some first sections
abbrev pub ChecksSome : Judging → List SectionText → List ℕ → Type 0
ChecksSome by sections said = (done rest : List SectionText) × (sections ≡ done ++ rest) × Checks by [] done said None

-- all that is to be said of sections is written, and a refusal is what is to be told
abbrev pub TellsAll : Judging → Known → Known → List SectionText → Ended → Type 0
TellsAll by old new sections (Ok x) = (said : List ℕ) × Checks by [] sections said None × Appends old new said
TellsAll by old new sections (Err (Refused told)) = (said : List ℕ) × Checks by [] sections said (Some told) × Appends old new said
TellsAll by old new sections (Err Memory) = (said : List ℕ) × ChecksSome by sections said × WritesPrefix old new said
TellsAll by old new sections (Err (Io error)) = (said : List ℕ) × ChecksSome by sections said × WritesPrefix old new said

-- how the sections of an opened script are judged, by its settings
abbrev pub Judges : Type 1
Judges = OpenedText → SettingsText → Judging

-- what is said of a script, and what is told; settings come before the other sections
abbrev pub ChecksOpened : Judges → Result OpenedText ℕ → List ℕ → Option ScriptFault → Type 0
ChecksOpened judged (Ok script) said told =
    ((settings : SettingsText) × GivesSettings script.settings (Ok settings) × Checks (judged script settings) [] script.sections said told)
    ⊎ ((fault : ScriptFault) × GivesSettings script.settings (Err fault.what) × (fault.line ≡ line_of script.settings) × (said ≡ []) × (told ≡ Some fault))
ChecksOpened judged (Err line) said told = (said ≡ []) × (told ≡ Some (record { line = line; what = Whats.BadSection }))

-- what is said of some first sections of a script
abbrev pub BeginsOpened : Judges → Result OpenedText ℕ → List ℕ → Type 0
BeginsOpened judged (Ok script) said =
    (settings : SettingsText) × GivesSettings script.settings (Ok settings) × ChecksSome (judged script settings) script.sections said
BeginsOpened judged (Err line) said = ⊥

-- what there is to write of a script whose sections are judged so; before a failure nothing or what is said of some first sections
abbrev pub outcome_by : Judges → List ℕ → Outcome
outcome_by judged script = record {
  Is = λ said told. ChecksOpened judged (opened script) said told;
  Begins = λ said. (said ≡ []) ⊎ BeginsOpened judged (opened script) said;
}

-- as `check` judges them
abbrev pub outcome_of : List ℕ → Outcome
outcome_of = outcome_by (λ script settings. checking)

-- of a script that was refused this was read: its bytes, up to one past the greatest length
abbrev pub KeepsRefused : Option (List ℕ) → List ℕ → Failure → Type 0
KeepsRefused script read (Refused told) = IfSome script (λ bytes. read ≡ take (most_bytes + 1) bytes)
KeepsRefused script read Memory = Unit {0}
KeepsRefused script read (Io error) = Unit {0}
