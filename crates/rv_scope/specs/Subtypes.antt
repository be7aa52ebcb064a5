-- What is known of subtypes and constants (ISO/IEC 8652:2012, 3.2.2, 3.3.1, 3.3.2).
use Rattle.std.specs.Prelude.{List, Option, Some, None}
use Rattle.rv_tree.specs.Names.{Identifier, Name}
use Rattle.rv_tree.specs.Expressions.{Expression, RangeConstraint}
use Rattle.rv_shape.specs.declared.kind.ValueType.TheVariants.{Integer}
use Rattle.rv_shape.specs.declared.kind.Range.{Range}
use Rattle.rv_static.specs.declared.meaning.Meaning.{Meaning}
use Rattle.rv_static.specs.Static.{◌>>=◌}
use Rattle.rv_static.specs.Meanings.{range_in}
use Rattle.rv_static.specs.Ranges.{narrowed, value_in}
use Rattle.rv_scope.specs.declared.known.Known.{Known}
use Rattle.rv_scope.specs.declared.known.Known.TheVariants as k
use Rattle.rv_scope.specs.ByPlace.{with_places}
use Rattle.rv_scope.specs.Statics.{Table, whole_range}

-- the range of a mark with a range constraint, if one is written
abbrev pub subtype_of : (Name → Meaning) → Name → Option RangeConstraint → Option Range
subtype_of means mark range = range_in (means mark) >>= λ whole. narrowed means whole range

-- what is known of a subtype
abbrev pub subtype_known : (Name → Meaning) → Name → Option RangeConstraint → Option Known
subtype_known means mark range = subtype_of means mark range >>= λ part. Some (k.Subtype part)

-- the subtype of a constant: that of its mark, and for a named number Integer (own)
abbrev pub constant_range : (Name → Meaning) → Option Name → Option Range
constant_range means None = Some (whole_range Integer)
constant_range means (Some mark) = range_in (means mark)

-- what is known of a constant, or of a named number
abbrev pub constant_known : (Name → Meaning) → Option Name → Expression → Option Known
constant_known means mark initial =
    constant_range means mark >>= λ range. value_in means range initial >>= λ value. Some (k.Constant range value)

-- what is known, and of these identifiers this too, if it is something
abbrev pub knowing_if : Option Known → List Identifier → Table → Table
knowing_if None names known = known
knowing_if (Some one) names known = with_places known names one
