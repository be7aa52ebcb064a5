-- What the list denies at each tick from one on (own).
use Rattle.std.specs.Prelude.{◌≡◌, ◌<◌, ◌≤◌, ℕ, false, List, Option, Some, None, codes}
use Rattle.std.specs.List.{All}
use Rattle.rv_access.specs.Lines.{grants, matches}
use Rattle.rv_access.specs.Windows.{is_open}
use Rattle.rv_access.specs.Words.{WindowWords, Words}
use Rattle.rv_shape.specs.Catalogue.{Target, by_names, handler, target, OperationNumber}
use Rattle.rv_shape.specs.Readers.{unit_named}
use Rattle.rv_shape.specs.Shape.{Shape}

-- the list grants the unit no call of these names at any tick from one on
abbrev pub IsDenied : List Words → ℕ → List ℕ → List ℕ → List ℕ → Type 0
IsDenied list clock unit object operation = (tick : ℕ) → clock ≤ tick → grants list unit object operation tick ≡ false

-- what a call is a call of, by the names of the object and of the operation
abbrev pub names_of : Target → Option (List ℕ × List ℕ)
names_of target = by_names None (λ object operation. Some (object, operation)) target

-- so is a call by its names, if it is one
abbrev pub AreDenied : List Words → ℕ → List ℕ → Option (List ℕ × List ℕ) → Type 0
AreDenied list clock unit None = ⊥
AreDenied list clock unit (Some names) = IsDenied list clock unit names.0 names.1

-- a call by numbers is denied to whoever has this name
abbrev pub DeniesCall : List Shape → List Words → ℕ → List ℕ → ℕ → ℕ → Type 0
DeniesCall shapes list clock name object operation = AreDenied list clock name (names_of (target shapes object operation))

-- the same of a unit of this name, if there is one
abbrev pub DeniesNamed : List Shape → List Words → ℕ → Option (List ℕ) → ℕ → ℕ → Type 0
DeniesNamed shapes list clock None object operation = ⊥
DeniesNamed shapes list clock (Some name) object operation = DeniesCall shapes list clock name object operation

-- the same of the unit of a number
abbrev pub DeniesUnit : List Shape → List Words → ℕ → ℕ → ℕ → ℕ → Type 0
DeniesUnit shapes list clock unit object operation = DeniesNamed shapes list clock (unit_named shapes unit) object operation

-- the home of the lines
abbrev pub interrupts : List ℕ
interrupts = codes "Interrupts"

-- the handler of a line is denied to the lines, if it has one
abbrev pub DeniesHandler : List Shape → List Words → ℕ → Option OperationNumber → Type 0
DeniesHandler shapes list clock None = ⊥
DeniesHandler shapes list clock (Some at) = DeniesCall shapes list clock interrupts at.object at.operation

abbrev pub DeniesLine : List Shape → List Words → ℕ → ℕ → Type 0
DeniesLine shapes list clock line = DeniesHandler shapes list clock (handler shapes line)

-- Ticks between which nothing changes

-- a tick is before another, if there is one
abbrev pub IsBefore : ℕ → Option ℕ → Type 0
IsBefore tick None = Unit {0}
IsBefore tick (Some next) = tick < next

-- a window is as open from one tick on, before the next, as it is there
abbrev pub IsSteady : Option WindowWords → ℕ → Option ℕ → Type 0
IsSteady window tick next = (other : ℕ) → tick ≤ other → IsBefore other next → is_open window other ≡ is_open window tick

-- each of these lines matches such names as it does there
abbrev pub AreSteady : List Words → List ℕ → List ℕ → List ℕ → ℕ → Option ℕ → Type 0
AreSteady lines unit object operation tick next =
    (other : ℕ) → tick ≤ other → IsBefore other next → All (λ line. matches line unit object operation other ≡ matches line unit object operation tick) lines
