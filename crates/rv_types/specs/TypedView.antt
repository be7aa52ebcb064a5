-- The typed expressions that values of the code stand for.
use Rattle.std.specs.Prelude.{map}
use Rattle.rv_code.specs.ExpressionView.{expression_view, link_view}
use Rattle.rv_types.specs.Typed as t
use Rattle.rv_types.specs.declared.typed.Typed.{Typed}
use Rattle.rv_types.specs.declared.typed.Sum.{Sum}

abbrev pub typed_view : Typed → t.Typed
typed_view v = record { of = v.of; code = expression_view v.code }

abbrev pub sum_view : Sum → t.Sum
sum_view s = record { of = s.of; links = map link_view s.links.items }
