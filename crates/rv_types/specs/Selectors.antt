-- Which values the selector of a case statement may have (ISO/IEC 8652:2012, 5.4).
use Rattle.std.specs.Prelude.{Option, Some, None, unwrap_or}
use Rattle.rv_tree.specs.Names.{Name}
use Rattle.rv_tree.specs.Expressions.{Expression, name, call}
use Rattle.rv_shape.specs.declared.kind.Range.{Range}
use Rattle.rv_shape.specs.Catalogue.{first_of}
use Rattle.rv_scope.specs.declared.declared.Declared.{Declared}
use Rattle.rv_scope.specs.declared.declared.Declared.TheVariants as d
use Rattle.rv_scope.specs.Visible.{visible}
use Rattle.rv_static.specs.declared.meaning.Meaning.{Meaning}
use Rattle.rv_static.specs.declared.meaning.Meaning.TheVariants.{Subtype}
use Rattle.rv_scope.specs.declared.predefined.Predefined.TheVariants.{DefaultPriority}
use Rattle.rv_scope.specs.Statics.{priority_range}
use Rattle.rv_scope.specs.declared.known.Known.{Known}
use Rattle.rv_scope.specs.declared.known.Known.TheVariants as k
use Rattle.rv_types.specs.declared.denoted.Denoted.{Denoted}
use Rattle.rv_types.specs.declared.denoted.Denoted.TheVariants as denoted
use Rattle.rv_types.specs.Points.{PointView, known_in, static_meaning, denotes}

-- the subtype of a constant with a static value
abbrev pub constant_range : Option Known → Option Range
constant_range (Some (k.Constant r z)) = Some r
constant_range known = None

-- System.Default_Priority is a constant of the subtype Priority (13.7)
abbrev pub declared_range : PointView → Option Declared → Option Range
declared_range p (Some (d.Constant at)) = constant_range (known_in p at)
declared_range p (Some (d.Predefined DefaultPriority)) = Some priority_range
declared_range p found = None

unfoldable pub constant_subtype : PointView → Name → Option Range
constant_subtype p n = declared_range p (visible p.scope n)

-- the subtype of a variable, of a component, and of the result of a function
abbrev pub range_of : Denoted → Option Range
range_of (denoted.Variable slot r is_written) = Some r
range_of (denoted.Component index r) = Some r
range_of (denoted.Function callee r) = Some r
range_of found = None

abbrev pub named_subtype : PointView → Name → Option Range
named_subtype p n = first_of (constant_subtype p n) (range_of (denotes p n))

-- the subtype of a conversion, or of a function call
abbrev pub called_subtype : PointView → Name → Meaning → Option Range
called_subtype p n (Subtype r) = Some r
called_subtype p n meaning = named_subtype p n

abbrev pub subtype_of : PointView → Expression → Option Range
subtype_of p (name n) = named_subtype p n
subtype_of p (call n es) = called_subtype p n (static_meaning p n)
subtype_of p e = None

-- its subtype where it is a name, a conversion or a function call, else all values of its type
unfoldable pub selector_subtype : PointView → Range → Expression → Range
selector_subtype p whole e = unwrap_or (subtype_of p e) whole
