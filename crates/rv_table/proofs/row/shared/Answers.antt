use Rattle.std.proofs.Common.{◌≡◌, ℕ, arith, refl, subst}
use Rattle.rv_table.proofs.Shared.{Half, half_more, shared_row}
use Rattle.rv_table.proofs.row.shared.Goals as goal

pub returns : goal.returns
returns c = λ list first second few ours theirs.
    let full : c.loop-w.w ≡ 8 = omega (arith, c.loop-w.invariant.within, c.loop-w-test.false) in
    shared_row list first second c.args.ours.now c.args.theirs.now c.loop-w.words few
    (subst (λ (w : ℕ). Half c.args.ours.now c.args.theirs.now c.loop-w.words w) full c.loop-w.invariant) ours theirs

pub loop-w-init : goal.loop-w-init
loop-w-init c = record { long = c.told-ours; within = omega arith; done = λ j less. absurd (omega (arith, less)); left = λ j more. refl }

pub loop-w-preserved : goal.loop-w-preserved
loop-w-preserved c = half_more c.args.ours.now c.args.theirs.now c.loop-w.words c.loop-w.w c.loop-w-test.true c.loop-w.invariant
