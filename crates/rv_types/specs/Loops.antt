-- What loops go over, and what choices cover (ISO/IEC 8652:2012, 3.6.1, 5.4, 5.5).
use Rattle.std.specs.Prelude.{ℤ, true, if◌then◌else◌, List, [], ◌∷◌, ◌++◌, Option, Some, None}
use Rattle.rv_tree.specs.Names.{Name}
use Rattle.rv_tree.specs.Expressions.{Expression, name, RangeConstraint}
use Rattle.rv_tree.specs.Statements.{LoopBounds, whole_bounds, two_bounds, constrained_bounds}
use Rattle.rv_tree.specs.Statements as tree
use Rattle.rv_shape.specs.declared.kind.Range.{Range}
use Rattle.rv_static.specs.Meanings.{same_type, range_in}
use Rattle.rv_static.specs.Static.{◌>>=◌}
use Rattle.rv_static.specs.Ranges.{bounded, static_number}
use Rattle.rv_static.specs.Static.{is_discrete}
use Rattle.rv_scope.specs.Statics.{whole_range}
use Rattle.rv_code.specs.Expressions as code
use Rattle.rv_code.specs.declared.statement.Choice.{Choice}
use Rattle.rv_code.specs.declared.statement.Choice.TheVariants as choice
use Rattle.rv_types.specs.Points.{PointView, static_meaning}
use Rattle.rv_types.specs.Typed.{typed, typed_as, literal_in}

-- what a loop goes over: two bounds that lie in a range, and the subtype of its parameter
pub record Bounds : Type 0 where
  pub range : Range
  pub low : code.Expression
  pub high : code.Expression
  pub parameter : Range

-- the subtype of the parameter: where both bounds are static, they are its own; else it isn't static, and the values that
-- choices have to cover are all of its type (5.4)
abbrev pub parameter_range : Range → Option ℤ → Option ℤ → Option Range
parameter_range r (Some low) (Some high) = bounded r low high
parameter_range r (Some low) None = Some (whole_range r.of)
parameter_range r None high = Some (whole_range r.of)

abbrev pub bounds_with : Range → code.Expression → code.Expression → Range → Bounds
bounds_with r low high parameter = record { range = r; low = low; high = high; parameter = parameter }

-- two bounds in a range of a discrete type
abbrev pub between : Range → code.Expression → code.Expression → Option Bounds
between r low high = parameter_range r (literal_in low) (literal_in high) >>= λ parameter. Some (bounds_with r low high parameter)

-- a range of a discrete type
abbrev pub discrete : Range → Option Range
discrete r = if is_discrete r.of then Some r else None

-- the subtype that an expression names
abbrev pub subtype_named : PointView → Expression → Option Range
subtype_named p (name n) = range_in (static_meaning p n)
subtype_named p other = None

-- all values of a subtype
abbrev pub all_values : Range → Option Bounds
all_values r = Some (bounds_with r (code.literal r.low) (code.literal r.high) r)

abbrev pub bounds_between : PointView → Range → Expression → Expression → Option Bounds
bounds_between p r low high = typed_as p r.of low >>= λ l. typed_as p r.of high >>= between r l

-- a subtype, two bounds of one type, and bounds of a subtype
abbrev pub whole_bounds_of : PointView → Expression → Option Bounds
whole_bounds_of p e = subtype_named p e >>= discrete >>= all_values

abbrev pub two_bounds_of : PointView → Expression → Expression → Option Bounds
two_bounds_of p low high =
    typed p true low >>= λ first. discrete (whole_range first.of) >>= λ r. typed_as p r.of high >>= between r first.code

abbrev pub constrained_bounds_of : PointView → Name → RangeConstraint → Option Bounds
constrained_bounds_of p mark range =
    range_in (static_meaning p mark) >>= discrete >>= λ r. bounds_between p r range.low range.high

-- what a loop goes over (3.6.1, 5.5)
unfoldable pub bounds_of : PointView → LoopBounds → Option Bounds
bounds_of p (whole_bounds e) = whole_bounds_of p e
bounds_of p (two_bounds low high) = two_bounds_of p low high
bounds_of p (constrained_bounds mark range) = constrained_bounds_of p mark range

-- Choices (3.8.1, 5.4)

abbrev pub values : ℤ → ℤ → Choice
values low high = choice.Values low high

-- all values of a subtype of the selector's type
abbrev pub subtype_choice : Range → Range → Option Choice
subtype_choice r part = if same_type part.of r.of then Some (values part.low part.high) else None

-- a static value, or a subtype
abbrev pub value_choice : PointView → Range → Expression → Option Range → Option Choice
value_choice p r e (Some part) = subtype_choice r part
value_choice p r e None = static_number (static_meaning p) r e >>= λ z. Some (values z z)

-- a choice for a selector of this range
abbrev pub choice_of : PointView → Range → tree.Choice → Option Choice
choice_of p r (tree.others at) = Some choice.Others
choice_of p r (tree.value e) = value_choice p r e (subtype_named p e)
choice_of p r (tree.between low high) =
    static_number (static_meaning p) r low >>= λ first. static_number (static_meaning p) r high >>= λ last. Some (values first last)

abbrev pub choices_onto : PointView → Range → List tree.Choice → List Choice → Option (List Choice)
choices_onto p r [] done = Some done
choices_onto p r (c ∷ cs) done = choice_of p r c >>= λ one. choices_onto p r cs (done ++ one ∷ [])
