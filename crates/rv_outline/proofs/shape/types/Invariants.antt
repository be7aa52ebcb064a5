use Rattle.std.proofs.Common.{◌≡◌, ◌++◌, drop, map}
use Rattle.rv_outline.proofs.shape.types.Given as goal

abbrev pub invariant-loop-object : goal.invariant-loop-object
invariant-loop-object l = l.done.items ++ map (λ o. o.of) (drop l.object-index l.object-items) ≡ map (λ o. o.of) l.object-items
