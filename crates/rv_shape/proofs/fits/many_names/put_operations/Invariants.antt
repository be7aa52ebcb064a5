use Rattle.std.proofs.Common.{◌≡◌, ◌++◌, drop, map}
use Rattle.rv_shape.proofs.fits.many_names.put_operations.Given as goal

-- with the names that are still to come
abbrev pub invariant-loop-operation : goal.invariant-loop-operation
invariant-loop-operation l =
    map (λ n. n.text.now) l.names.items ++ map (λ p. p.name) (drop l.operation-index l.operations) ≡ map (λ n. n.text.now) l.initial.names.items ++ map (λ p. p.name) l.operations
