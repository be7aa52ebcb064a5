-- What the sections of a script give for an audit, and what stands against them (own).
use Rattle.std.specs.Prelude.{◌≡◌, ◌⊎◌, ℕ, Bool, true, false, List, [], ◌∷◌, ◌++◌, map, Option, Some, None, Result, Ok, Err}
use Rattle.rv_text.specs.Sections.{SectionText}
use Rattle.rv_shape.specs.Shape.{Shape}
use Rattle.rv_shape.specs.ShapeText.{shape_of}
use Rattle.rv_shape.specs.Fits.{fault}
use Rattle.rv_shape.specs.declared.fault.ShapeFault.{ShapeFault}
use Rattle.rv_code.specs.declared.unit.Unit.{Unit as Compiled}
use Rattle.rv_script.specs.Openings.{opening_of}
use Rattle.rv_script.specs.UnitTexts.{without_returns}
use Rattle.rv_script.specs.declared.opening.Opening.{Opening}
use Rattle.rv_script.specs.declared.opening.Opening.TheVariants as Openings
use Rattle.rv_settings.specs.Settings.{DeviceText}
use Rattle.rv_fault.specs.Sections.{Giving, GivesUnit, Just, device_shape, if_shape}
use Rattle.rv_fault.specs.declared.fault.What.{What}
use Rattle.rv_fault.specs.declared.fault.What.TheVariants as Whats
use Rattle.rv_fault.specs.declared.fault.ScriptFault.{ScriptFault}
use Rattle.rv_fault.specs.declared.failure.Failure.{Failure}
use Rattle.rv_fault.specs.declared.failure.Failure.TheVariants.{Refused, Memory, Io}

-- the units so far, those of them that fit the ones before, and the journal
pub record GivenText : Type 0 where
  pub units : List Shape
  pub fitting : List Shape
  pub journal : List ℕ

abbrev pub nothing : GivenText
nothing = record { units = []; fitting = []; journal = [] }

-- one more unit; where nothing stands against it, later unit texts are compiled over it too
abbrev pub fits_then : Option ShapeFault → List Shape → Shape → List Shape
fits_then None fitting shape = fitting ++ shape ∷ []
fits_then (Some told) fitting shape = fitting

abbrev pub with_unit : GivenText → Shape → GivenText
with_unit given shape = record given {
  units = given.units ++ shape ∷ [];
  fitting = fits_then (fault given.fitting shape) given.fitting shape;
}

-- the shape of the unit that a text is
abbrev pub GivesShape : List Shape → List ℕ → Giving Shape
GivesShape fitting text (Ok shape) = (unit : Compiled) × GivesUnit fitting text (Ok unit) × (shape ≡ unit.shape)
GivesShape fitting text (Err what) = GivesUnit fitting text (Err what)

-- the unit of a section; openings that aren't named here hold none
abbrev pub Holds : List Shape → List ℕ → Option Opening → Giving Shape
Holds fitting text (Some Openings.UnitText) found = GivesShape fitting (without_returns text) found
Holds fitting text (Some Openings.Shape) found = Just (if_shape (shape_of text)) found
Holds fitting text opening found = found ≡ Err Whats.BadSection

-- a section gives one more unit
abbrev pub GivesMore : GivenText → SectionText → Giving GivenText
GivesMore given section (Ok after) = (shape : Shape) × Holds given.fitting section.text (opening_of section.opening) (Ok shape) × (after ≡ with_unit given shape)
GivesMore given section (Err what) = Holds given.fitting section.text (opening_of section.opening) (Err what)

-- whether it holds a journal that is taken
abbrev pub is_journal : Bool → Option Opening → Bool
is_journal true (Some Openings.Journal) = true
is_journal has_journal opening = false

-- a section gives a journal, in place of one before, or a unit
abbrev pub takes_in : Bool → GivenText → SectionText → Giving GivenText
takes_in true given section found = found ≡ Ok (record given { journal = section.text })
takes_in false given section found = GivesMore given section found

abbrev pub Takes : Bool → GivenText → SectionText → Giving GivenText
Takes has_journal given section = takes_in (is_journal has_journal (opening_of section.opening)) given section

-- a call takes a section, unless memory ran out
abbrev pub TakesOne : Bool → GivenText → GivenText → SectionText → Result (Unit {0}) Failure → Type 0
TakesOne has_journal given after section (Ok x) = Takes has_journal given section (Ok after)
TakesOne has_journal given after section (Err (Refused told)) = Takes has_journal given section (Err told.what) × (told.line ≡ section.line)
TakesOne has_journal given after section (Err Memory) = Unit {0}
TakesOne has_journal given after section (Err (Io error)) = ⊥

-- sections in turn, up to the first that something stands against
abbrev pub Gathers : Bool → GivenText → List SectionText → Result GivenText ScriptFault → Type 0
Gathers has_journal given [] found = found ≡ Ok given
Gathers has_journal given (section ∷ others) found =
    ((what : What) × Takes has_journal given section (Err what) × (found ≡ Err (record { line = section.line; what = what })))
    ⊎ ((after : GivenText) × Takes has_journal given section (Ok after) × Gathers has_journal after others found)

-- a call gives what sections give, unless memory ran out
abbrev pub GivesAll : Bool → List SectionText → Result GivenText Failure → Type 0
GivesAll has_journal sections (Ok given) = Gathers has_journal nothing sections (Ok given)
GivesAll has_journal sections (Err (Refused told)) = Gathers has_journal nothing sections (Err told)
GivesAll has_journal sections (Err Memory) = Unit {0}
GivesAll has_journal sections (Err (Io error)) = ⊥

-- the units of devices, behind the others
abbrev pub with_devices : List Shape → List DeviceText → List Shape
with_devices units devices = units ++ map device_shape devices
