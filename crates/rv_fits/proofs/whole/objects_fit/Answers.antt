use Rattle.std.proofs.Common.{◌≡◌, ◌<◌, ◌∙◌, ℕ, true, sym, arith}
use Rattle.rv_fits.specs.Alike.{bodies_fit_at}
use Rattle.rv_fits.proofs.Alike.{all_fit_at, one_more}
use Rattle.rv_fits.proofs.whole.objects_fit.Goals as goal

pub loop-index-preserved : goal.loop-index-preserved
loop-index-preserved c =
    one_more (λ (k : ℕ). bodies_fit_at c.args.units.now c.args.first c.args.bodies.now.lists.items c.args.bodies.now.objects.items k ≡ true) c.loop-index.index c.loop-index.invariant
    (sym c.object_fits.ensures ∙ c.if-not-object_fits.false)

pub returns : goal.returns
returns c =
    sym (all_fit_at c.args.units.now c.args.bodies.now.lists.items c.args.first c.args.bodies.now.objects.items
    (λ k lt. let here : k < c.loop-index.index = omega (arith, lt, c.loop-index-test.false, c.loop-index.auto.index-end, c.len-index-end.ensures) in c.loop-index.invariant k here))
