use Rattle.std.proofs.Common.{◌≡◌, drop, map}
use Rattle.rv_shape.specs.Fits.{twice}
use Rattle.rv_shape.proofs.Again.{again}
use Rattle.rv_shape.proofs.fits.many_names.is_again.Given as goal

-- none so far was noted before
abbrev pub invariant-loop-name : goal.invariant-loop-name
invariant-loop-name l = again l.before.keys (drop l.name-index l.names) ≡ twice (map (λ n. n.text.now) l.names)
