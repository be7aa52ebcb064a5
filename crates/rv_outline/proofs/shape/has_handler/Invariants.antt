use Rattle.std.proofs.Common.{◌≡◌, drop}
use Rattle.std.specs.List.{list_any}
use Rattle.rv_shape.specs.Kinds.{is_handler}
use Rattle.rv_outline.proofs.shape.has_handler.Given as goal

abbrev pub invariant-loop-one : goal.invariant-loop-one
invariant-loop-one l =
    list_any (λ operation. is_handler operation.kind) (drop l.one-index l.one-items)
    ≡ list_any (λ operation. is_handler operation.kind) l.one-items
