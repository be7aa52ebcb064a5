use Rattle.std.proofs.Common.{rules, ◌≡◌, ◌∙◌, sym, arith, to_z, of_z, w64}
use Rattle.rv_machine.proofs.MovesLeft.{turns_fit}
use Rattle.rv_machine.proofs.Steps.{at_bounds}
use Rattle.rv_machine.proofs.ValueSteps.{null_range, range_raises, range_counts}
use Rattle.rv_machine.proofs.values.start_count.Goals as goal

pub returns-then-high-low : goal.returns-then-high-low
returns-then-high-low c =
    let low : to_z w64 (of_z w64 c.args.low) ≡ c.args.low = Prim.first_of (Prim.search rules, Prim.grind arith) in
    let high : to_z w64 (of_z w64 c.args.high) ≡ c.args.high = Prim.first_of (Prim.search rules, Prim.grind arith) in
    λ fs. at_bounds _ _ _ _ _ _ _ _ _ _ fs _ low high (null_range _ _ _ _ _ _ _ _ c.if-high-low.true)

pub returns-then-not-fits : goal.returns-then-not-fits
returns-then-not-fits c =
    let low : to_z w64 (of_z w64 c.args.low) ≡ c.args.low = Prim.first_of (Prim.search rules, Prim.grind arith) in
    let high : to_z w64 (of_z w64 c.args.high) ≡ c.args.high = Prim.first_of (Prim.search rules, Prim.grind arith) in
    λ fs. at_bounds _ _ _ _ _ _ _ _ _ _ fs _ low high (range_raises _ _ _ _ _ _ _ _ c.if-high-low.false (sym c.fits.ensures.value ∙ c.if-not-fits.true))

pub returns : goal.returns
returns c =
    let low : to_z w64 (of_z w64 c.args.low) ≡ c.args.low = Prim.first_of (Prim.search rules, Prim.grind arith) in
    let high : to_z w64 (of_z w64 c.args.high) ≡ c.args.high = Prim.first_of (Prim.search rules, Prim.grind arith) in
    λ fs. at_bounds _ _ _ _ _ _ _ _ _ _ fs _ low high (range_counts _ _ _ _ _ _ _ _ _ c.if-high-low.false (sym c.fits.ensures.value ∙ c.if-not-fits.false) c.span-left.ensures (turns_fit _ (omega arith)))
