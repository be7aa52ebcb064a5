use Rattle.std.proofs.Common.{◌≡◌, ℕ, ◌+◌, ◌<◌}
use Rattle.rv_shape.specs.Catalogue.{target}
use Rattle.rv_fits.specs.Fits.{calls_entry}
use Rattle.rv_fits.proofs.whole.alike_to.Given as goal

abbrev pub invariant-loop-n : goal.invariant-loop-n
invariant-loop-n l = (k : ℕ) → k < l.n → calls_entry (target l.units l.one (k + 1)) ≡ calls_entry (target l.units l.other (k + 1))
