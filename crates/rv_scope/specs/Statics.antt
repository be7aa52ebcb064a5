-- What names mean in static expressions (ISO/IEC 8652:2012, 3.2, 3.3, 4.9): those of library packages, and those of a text of
-- whose declarations something is known.
use Rattle.std.specs.Prelude.{ℕ, ℤ, pos, Option, Some}
use Rattle.rv_tree.specs.Names.{Name}
use Rattle.rv_shape.specs.declared.kind.ValueType.{ValueType}
use Rattle.rv_shape.specs.declared.kind.ValueType.TheVariants.{Integer, Boolean, Time, TimeSpan}
use Rattle.rv_shape.specs.declared.kind.Range.{Range}
use Rattle.rv_shape.specs.Fits.{lowest, highest}
use Rattle.rv_static.specs.declared.meaning.Meaning.{Meaning}
use Rattle.rv_static.specs.declared.meaning.Meaning.TheVariants as m
use Rattle.rv_scope.specs.declared.declared.Declared.{Declared}
use Rattle.rv_scope.specs.declared.declared.Declared.TheVariants as d
use Rattle.rv_scope.specs.declared.predefined.Predefined.{Predefined}
use Rattle.rv_scope.specs.declared.predefined.Predefined.TheVariants as p
use Rattle.rv_scope.specs.Scope.{ScopeView}
use Rattle.rv_scope.specs.Visible.{visible}
use Rattle.rv_scope.specs.ByPlace.{ByPlace, at_place}
use Rattle.rv_scope.specs.declared.known.Known.{Known}
use Rattle.rv_scope.specs.declared.known.Known.TheVariants as k

-- all values of a type
abbrev pub whole_range : ValueType → Range
whole_range of = record { of = of; low = lowest of; high = highest of }

-- the values of Integer from one to another
abbrev pub integers : ℤ → ℤ → Range
integers low high = record { of = Integer; low = low; high = high }

-- Natural and Positive (A.1)
abbrev pub natural_range : Range
natural_range = integers (pos 0) (highest Integer)

abbrev pub positive_range : Range
positive_range = integers (pos 1) (highest Integer)

-- Priority, Interrupt_Priority and Any_Priority (13.7, D.1); their bounds are our own
abbrev pub priority_range : Range
priority_range = integers (pos 1) (pos 30)

abbrev pub interrupt_priority_range : Range
interrupt_priority_range = integers (pos 31) (pos 40)

abbrev pub any_priority_range : Range
any_priority_range = integers (pos 1) (pos 40)

-- Default_Priority (D.1), the priority of a task that is given none (own)
abbrev pub default_priority : ℕ
default_priority = 15

-- what a declaration of a library package means in a static expression
abbrev pub predefined_meaning : Predefined → Meaning
predefined_meaning p.Integer = m.Subtype (whole_range Integer)
predefined_meaning p.Natural = m.Subtype natural_range
predefined_meaning p.Positive = m.Subtype positive_range
predefined_meaning p.Boolean = m.Subtype (whole_range Boolean)
predefined_meaning p.True = m.Constant Boolean (pos 1)
predefined_meaning p.False = m.Constant Boolean (pos 0)
predefined_meaning p.Priority = m.Subtype priority_range
predefined_meaning p.InterruptPriority = m.Subtype interrupt_priority_range
predefined_meaning p.AnyPriority = m.Subtype any_priority_range
predefined_meaning p.DefaultPriority = m.Constant Integer (pos default_priority)
predefined_meaning p.Time = m.Subtype (whole_range Time)
predefined_meaning p.TimeSpan = m.Subtype (whole_range TimeSpan)
predefined_meaning p.Milliseconds = m.Milliseconds
predefined_meaning other = m.NotStatic

-- what is known of declarations, by the places of their identifiers
abbrev pub Table : Type 0
Table = ByPlace Known

-- what is known means in a static expression
abbrev pub known_meaning : Option Known → Meaning
known_meaning (Some (k.Subtype range)) = m.Subtype range
known_meaning (Some (k.Constant range value)) = m.Constant range.of value
known_meaning other = m.NotStatic

-- what a declaration means in a static expression
abbrev pub meaning_of : Table → Option Declared → Meaning
meaning_of known (Some (d.Subtype at)) = known_meaning (at_place known at)
meaning_of known (Some (d.Constant at)) = known_meaning (at_place known at)
meaning_of known (Some (d.Predefined item)) = predefined_meaning item
meaning_of known other = m.NotStatic

-- what a name means at a point: what is known of the declaration that is visible there
abbrev pub means : ScopeView → Table → Name → Meaning
means scope known name = meaning_of known (visible scope name)
