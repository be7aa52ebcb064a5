-- Subtypes with their ranges, and what a component starts at (ISO/IEC 8652:2012, 3.5, 3.2.2).
use Rattle.std.specs.Prelude.{ℤ, pos, int_lt, Bool, true, false, ◌||◌, ◌&&◌, if◌then◌else◌, Option, Some, None}
use Rattle.rv_tree.specs.Names.{Name}
use Rattle.rv_tree.specs.Expressions.{Expression, RangeConstraint}
use Rattle.rv_shape.specs.declared.kind.Range.{Range}
use Rattle.rv_shape.specs.declared.kind.ValueType.{ValueType}
use Rattle.rv_shape.specs.declared.kind.ValueType.TheVariants.{Integer, Boolean, Time, TimeSpan}
use Rattle.rv_static.specs.declared.meaning.Meaning.{Meaning}
use Rattle.rv_static.specs.declared.meaning.Number.{Number}
use Rattle.rv_static.specs.declared.meaning.Number.TheVariants.{Known, Skipped}
use Rattle.rv_static.specs.Meanings.{in_bounds}
use Rattle.rv_static.specs.Static.{◌>>=◌, number_in, static_of, is_discrete}

-- a number that was evaluated
abbrev pub known_number : Number → Option ℤ
known_number (Known z) = Some z
known_number Skipped = None

-- the number of a static expression of the range's type
unfoldable pub static_number : (Name → Meaning) → Range → Expression → Option ℤ
static_number means r e = number_in r.of (static_of means true e) >>= known_number

-- the range of this type between two bounds: a null range, or one whose bounds are in the subtype
abbrev pub bounded : Range → ℤ → ℤ → Option Range
bounded r low high =
    if int_lt high low || (in_bounds r low && in_bounds r high) then Some (record { of = r.of; low = low; high = high }) else None

-- the range between two bounds of a range constraint
abbrev pub constrained : (Name → Meaning) → Range → RangeConstraint → Option Range
constrained means r c =
    static_number means r c.low >>= λ low. static_number means r c.high >>= λ high. bounded r low high

-- a subtype with a range constraint, if one is written (3.2.2)
abbrev pub narrowed : (Name → Meaning) → Range → Option RangeConstraint → Option Range
narrowed means r None = Some r
narrowed means r (Some c) = if is_discrete r.of then constrained means r c else None

-- a number that is in the range
abbrev pub within : Range → ℤ → Option ℤ
within r z = if in_bounds r z then Some z else None

-- what a value of a range starts at where none is given: the first value, and 0 for Time and Time_Span (own)
abbrev pub default_start : Range → ℤ
default_start r = if is_discrete r.of then r.low else pos 0

-- the value of a static expression that is in the range
abbrev pub value_in : (Name → Meaning) → Range → Expression → Option ℤ
value_in means r e = static_number means r e >>= within r

-- what a component of a range starts at
abbrev pub start_of : (Name → Meaning) → Range → Option Expression → Option ℤ
start_of means r None = Some (default_start r)
start_of means r (Some e) = value_in means r e
