-- The range of what a name denotes (ISO/IEC 8652:2012, 3.5).
use Rattle.std.specs.Prelude.{Option, Some, None}
use Rattle.rv_shape.specs.declared.kind.Range.{Range}
use Rattle.rv_static.specs.Static.{◌>>=◌}
use Rattle.rv_static.specs.declared.meaning.Meaning.{Meaning}
use Rattle.rv_static.specs.declared.meaning.Meaning.TheVariants as m
use Rattle.rv_scope.specs.declared.declared.Declared.{Declared}
use Rattle.rv_scope.specs.declared.declared.Declared.TheVariants as d
use Rattle.rv_scope.specs.declared.known.Known.{Known}
use Rattle.rv_scope.specs.declared.known.Known.TheVariants as k
use Rattle.rv_scope.specs.ByPlace.{ByPlace, at_place}
use Rattle.rv_scope.specs.Statics.{predefined_meaning}
use Rattle.rv_seen.specs.Names.{place_of}

-- that of a subtype, else that of its subtype
abbrev pub range_of_known : Known → Option Range
range_of_known (k.Subtype range) = Some range
range_of_known (k.Constant range value) = Some range
range_of_known (k.Variable slot range is_written) = Some range
range_of_known (k.Component index range) = Some range
range_of_known other = None

abbrev pub range_of_meaning : Meaning → Option Range
range_of_meaning (m.Subtype range) = Some range
range_of_meaning other = None

-- what the table has for the place of the identifier that declares this; what a library package declares has its own range
abbrev pub range_of : ByPlace Known → Declared → Option Range
range_of table (d.Predefined item) = range_of_meaning (predefined_meaning item)
range_of table found = place_of found >>= λ at. at_place table at >>= range_of_known
