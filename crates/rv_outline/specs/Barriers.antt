-- The barriers that entry bodies give (ISO/IEC 8652:2012, 9.5.2, D.7 Simple_Barriers).
use Rattle.std.specs.Prelude.{ℕ, ◌+◌, ℤ, Bool, ◌&&◌, nat_lt, if◌then◌else◌, Option, Some, None}
use Rattle.rv_tree.specs.Expressions.{Expression, name}
use Rattle.rv_shape.specs.declared.kind.ValueType.TheVariants.{Boolean}
use Rattle.rv_shape.specs.declared.kind.Range.{Range}
use Rattle.rv_shape.specs.Forms.{is_at}
use Rattle.rv_shape.specs.declared.kind.Barrier.{Barrier}
use Rattle.rv_shape.specs.declared.kind.Barrier.TheVariants.{AlwaysOpen, AlwaysClosed, Component}
use Rattle.rv_scope.specs.declared.declared.Declared.{Declared}
use Rattle.rv_scope.specs.declared.declared.Declared.TheVariants as d
use Rattle.rv_scope.specs.Scope.{ScopeView}
use Rattle.rv_scope.specs.Visible.{visible}
use Rattle.rv_static.specs.Static.{◌>>=◌}
use Rattle.rv_static.specs.Meanings.{same_type}
use Rattle.rv_static.specs.Operators.{is_true}
use Rattle.rv_static.specs.Ranges.{static_number}
use Rattle.rv_scope.specs.declared.known.Known.{Known}
use Rattle.rv_scope.specs.declared.known.Known.TheVariants as k
use Rattle.rv_scope.specs.ByPlace.{at_place}
use Rattle.rv_scope.specs.Statics.{Table, whole_range, means}

-- the place of the component that a declaration is
abbrev pub component_place : Option Declared → Option ℕ
component_place (Some (d.Component at)) = Some at
component_place other = None

-- the place of the component that an expression names, if it is such a name
abbrev pub component_named : ScopeView → Expression → Option ℕ
component_named scope (name n) = component_place (visible scope n)
component_named scope other = None

-- no text has so many components (own)
abbrev pub most_indexes : ℕ
most_indexes = 4294967296

-- the subtype of a component that is a barrier: all of Boolean (own)
abbrev pub is_whole_boolean : Range → Bool
is_whole_boolean range = same_type range.of Boolean && is_at 0 range.low && is_at 1 range.high

-- the barrier that is a component; components are numbered from 1 there
abbrev pub component_barrier : Option Known → Option Barrier
component_barrier (Some (k.Component index range)) =
    if is_whole_boolean range && nat_lt index most_indexes then Some (Component (index + 1)) else None
component_barrier other = None

-- the barrier that is always the same
abbrev pub fixed_barrier : ℤ → Barrier
fixed_barrier value = if is_true value then AlwaysOpen else AlwaysClosed

-- a barrier that is a component of this place, or else a static expression
abbrev pub barrier_at : ScopeView → Table → Expression → Option ℕ → Option Barrier
barrier_at scope table e (Some at) = component_barrier (at_place table at)
barrier_at scope table e None = static_number (means scope table) (whole_range Boolean) e >>= λ value. Some (fixed_barrier value)

-- the barrier of an expression at a point: a component, or a static expression
abbrev pub barrier_of : ScopeView → Table → Expression → Option Barrier
barrier_of scope table e = barrier_at scope table e (component_named scope e)
