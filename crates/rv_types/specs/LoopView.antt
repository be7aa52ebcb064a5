-- The bounds of loops, and what calls are given, that values of the code stand for.
use Rattle.std.specs.Prelude.{map}
use Rattle.rv_code.specs.ExpressionView.{expression_view}
use Rattle.rv_types.specs.Loops as t
use Rattle.rv_types.specs.Targets as targets
use Rattle.rv_types.specs.declared.bounds.Bounds.{Bounds}
use Rattle.rv_types.specs.declared.target.Passed.{Passed}

abbrev pub bounds_view : Bounds → t.Bounds
bounds_view b = record { range = b.range; low = expression_view b.low; high = expression_view b.high; parameter = b.parameter }

abbrev pub passed_view : Passed → targets.Passed
passed_view p = record { arguments = map expression_view p.arguments.items; targets = p.targets.items }
