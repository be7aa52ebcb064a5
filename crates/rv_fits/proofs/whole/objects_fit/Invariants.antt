use Rattle.std.proofs.Common.{◌≡◌, ℕ, ◌<◌, true}
use Rattle.rv_fits.specs.Alike.{bodies_fit_at}
use Rattle.rv_fits.proofs.whole.objects_fit.Given as goal

abbrev pub invariant-loop-index : goal.invariant-loop-index
invariant-loop-index l = (k : ℕ) → k < l.index → bodies_fit_at l.units l.first l.bodies.lists.items l.bodies.objects.items k ≡ true
