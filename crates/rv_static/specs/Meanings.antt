-- What names mean in static expressions (ISO/IEC 8652:2012, 4.9), and the values of these expressions.
use Rattle.std.specs.Prelude.{ℤ, int_le, Bool, true, false, ◌&&◌, if◌then◌else◌, Option, Some, None}
use Rattle.rv_shape.specs.declared.kind.ValueType.{ValueType}
use Rattle.rv_shape.specs.declared.kind.ValueType.TheVariants.{Integer, Boolean, Time, TimeSpan}
use Rattle.rv_shape.specs.declared.kind.Range.{Range}
use Rattle.rv_static.specs.declared.meaning.Meaning.{Meaning}
use Rattle.rv_static.specs.declared.meaning.Meaning.TheVariants.{Subtype, Constant, Milliseconds, NotStatic}
use Rattle.rv_static.specs.declared.meaning.Number.{Number}
use Rattle.rv_static.specs.declared.meaning.Number.TheVariants.{Known, Skipped}
use Rattle.rv_static.specs.declared.meaning.Static.{Static}

-- two types are the same
abbrev pub same_type : ValueType → ValueType → Bool
same_type Integer Integer = true
same_type Boolean Boolean = true
same_type Time Time = true
same_type TimeSpan TimeSpan = true
same_type a b = false

-- a number of a type
abbrev pub static_of_type : ValueType → Number → Static
static_of_type t n = record { of = t; number = n }

-- a number, in an expression that is evaluated
abbrev pub shown : Bool → ℤ → Number
shown true z = Known z
shown false z = Skipped

-- the value of a constant
abbrev pub constant_in : Bool → Meaning → Option Static
constant_in ev (Subtype r) = None
constant_in ev (Constant t z) = Some (static_of_type t (shown ev z))
constant_in ev Milliseconds = None
constant_in ev NotStatic = None

-- the range of a subtype
abbrev pub range_in : Meaning → Option Range
range_in (Subtype r) = Some r
range_in (Constant t z) = None
range_in Milliseconds = None
range_in NotStatic = None

-- a value is in a range (3.5)
abbrev pub in_bounds : Range → ℤ → Bool
in_bounds r z = int_le r.low z && int_le z r.high

-- a number that is in a range, where it is evaluated
abbrev pub placed : Range → Number → Option Number
placed r (Known z) = if in_bounds r z then Some (Known z) else None
placed r Skipped = Some Skipped
