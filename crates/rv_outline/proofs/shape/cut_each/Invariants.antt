use Rattle.std.proofs.Common.{◌≡◌, ◌++◌, drop, map}
use Rattle.rv_outline.specs.Shapes.{cut_operation}
use Rattle.rv_outline.proofs.shape.cut_each.Given as goal

abbrev pub invariant-loop-one : goal.invariant-loop-one
invariant-loop-one l = l.done.items ++ map cut_operation (drop l.one-index l.list) ≡ map cut_operation l.list
