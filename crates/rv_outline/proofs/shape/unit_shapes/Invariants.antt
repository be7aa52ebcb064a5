use Rattle.std.proofs.Common.{◌≡◌, ◌++◌, drop, map}
use Rattle.rv_outline.specs.Shapes.{unit_shape}
use Rattle.rv_outline.proofs.shape.unit_shapes.Given as goal

abbrev pub invariant-loop-unit : goal.invariant-loop-unit
invariant-loop-unit l = l.done.items ++ map (unit_shape l.draft.kinds) (drop l.unit-index l.unit-items) ≡ map (unit_shape l.draft.kinds) l.unit-items
