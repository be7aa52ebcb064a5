use Rattle.std.proofs.Common.{◌≡◌, ◌∙◌, ◌+◌, ℕ, sym}
use Rattle.rv_shape.specs.Catalogue.{target}
use Rattle.rv_fits.specs.Fits.{calls_entry}
use Rattle.rv_fits.proofs.Alike.{one_more}
use Rattle.rv_fits.proofs.whole.alike_to.Goals as goal

pub loop-n-preserved : goal.loop-n-preserved
loop-n-preserved c =
    one_more (λ (k : ℕ). calls_entry (target c.args.units.now c.args.one (k + 1)) ≡ calls_entry (target c.args.units.now c.args.other (k + 1))) c.loop-n.n c.loop-n.invariant
    (sym c.calls_entry-first.ensures ∙ (c.is_same.ensures c.if-not-is_same.false ∙ c.calls_entry-second.ensures))
