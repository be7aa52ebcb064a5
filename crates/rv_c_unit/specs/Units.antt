-- What a call comes to that loads a unit text behind a handle (own).
use Rattle.std.specs.Prelude.{◌≡◌, ℕ, ℤ, List, Option, Ok, Err, MatchOption, ⊤}
use Rattle.std.specs.Str.{IsUtf8}
use Rattle.rv_shape.specs.Shape.{Shape}
use Rattle.rv_script.specs.UnitTexts.{without_returns}
use Rattle.rv_fault.specs.Sections.{GivesUnit}
use Rattle.rv_fault.specs.declared.fault.What.{What}
use Rattle.rv_kept.specs.declared.kept.Kept.{Kept}
use Rattle.rv_c_host.specs.Carried.{Performs}
use Rattle.rv_c_host.specs.Numbers.{no_host}
use Rattle.rv_c_host.specs.declared.reading.Read.{Read}
use Rattle.rv_c_host.specs.declared.reading.Read.TheVariants.{Bring, Do, Bad, Memory}

-- a text is read as the unit that a section of a script would give, with its bodies; one that is told to be bad gives none, or isn't
-- UTF-8
abbrev pub ReadsUnit : List Shape → List ℕ → Read → Type 0
ReadsUnit shapes text (Bring unit) = GivesUnit shapes (without_returns text) (Ok unit)
ReadsUnit shapes text (Do change) = ⊥
ReadsUnit shapes text (Bad told) = IsUtf8 text → (what : What) × GivesUnit shapes (without_returns text) (Err what)
ReadsUnit shapes text Memory = ⊤

-- what was read is carried out, on the host behind a handle, if there is one
abbrev pub LoadsText : List ℕ → Option Kept → Option Kept → ℤ → Type 0
LoadsText text old new status = MatchOption old ((new ≡ old) × (status ≡ no_host))
    (λ k. (read : Read) × ReadsUnit k.host.shapes text read × Performs read k new status)
