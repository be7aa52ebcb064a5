use Rattle.std.proofs.Common.{◌≡◌, ◌++◌, drop, map}
use Rattle.rv_outline.specs.Shapes.{operation_shape}
use Rattle.rv_outline.proofs.shape.operations.Given as goal

abbrev pub invariant-loop-draft : goal.invariant-loop-draft
invariant-loop-draft l = l.done.items ++ map (operation_shape l.kinds) (drop l.draft-index l.draft-items) ≡ map (operation_shape l.kinds) l.draft-items
