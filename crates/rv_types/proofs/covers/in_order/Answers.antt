use Rattle.std.proofs.Common.{rules, ◌∙◌, ap, sym, false, Some, ℤ, w64, SFits}
use Rattle.std.proofs.lemmas.Int.{to_z-of_z}
use Rattle.rv_types.proofs.Chains.{judged, stops, goes_behind, at_end, chain_of, is_gap, no_gaps}
use Rattle.rv_types.proofs.covers.in_order.Goals as goal

pub returns-in-None : goal.returns-in-None
returns-in-None c =
    let high_fits : SFits w64 c.args.high = search rules in
    let low_fits : SFits w64 c.args.low = search rules in
    judged c.args.gaps c.args.low c.args.high c.args.spans.now.items false c.requires.parts c.requires.order c.requires.end
    (stops c.args.gaps _ _ _ c.args.spans.now.items c.deref-span-items.result.now c.deref-span-items.ensures.value c.loop-span.span-index _ c.after.result
    c.loop-span-test.true c.loop-span.invariant c.after.ensures c.in-None.is
    ∙ chain_of c.args.gaps _ c.args.high _ c.args.low c.args.spans.now.items (to_z-of_z w64 c.args.high high_fits) (to_z-of_z w64 c.args.low low_fits))

pub loop-span-preserved : goal.loop-span-preserved
loop-span-preserved c =
    let fits : SFits w64 c.in-Some.behind = search rules in
    goes_behind c.args.gaps _ _ _ c.args.spans.now.items c.deref-span-items.result.now c.deref-span-items.ensures.value c.loop-span.span-index _ _ c.after.result
    c.loop-span-test.true c.loop-span.invariant c.after.ensures
    (c.in-Some.is ∙ ap (λ (z : ℤ). Some z) (sym (to_z-of_z w64 c.in-Some.behind fits)))

pub returns-then-gaps : goal.returns-then-gaps
returns-then-gaps c =
    let high_fits : SFits w64 c.args.high = search rules in
    let low_fits : SFits w64 c.args.low = search rules in
    judged c.args.gaps c.args.low c.args.high c.args.spans.now.items c.args.gaps c.requires.parts c.requires.order c.requires.end
    (is_gap c.args.gaps _ _ c.if-gaps.true
    (at_end c.args.gaps _ _ _ c.args.spans.now.items c.deref-span-items.result.now c.deref-span-items.ensures.value c.loop-span.span-index c.loop-span-test.false c.loop-span.invariant)
    ∙ chain_of c.args.gaps _ c.args.high _ c.args.low c.args.spans.now.items (to_z-of_z w64 c.args.high high_fits) (to_z-of_z w64 c.args.low low_fits))

pub returns-else-gaps : goal.returns-else-gaps
returns-else-gaps c =
    let high_fits : SFits w64 c.args.high = search rules in
    let low_fits : SFits w64 c.args.low = search rules in
    judged c.args.gaps c.args.low c.args.high c.args.spans.now.items _ c.requires.parts c.requires.order c.requires.end
    (no_gaps c.args.gaps _ _ c.if-gaps.false
    (at_end c.args.gaps _ _ _ c.args.spans.now.items c.deref-span-items.result.now c.deref-span-items.ensures.value c.loop-span.span-index c.loop-span-test.false c.loop-span.invariant)
    ∙ chain_of c.args.gaps _ c.args.high _ c.args.low c.args.spans.now.items (to_z-of_z w64 c.args.high high_fits) (to_z-of_z w64 c.args.low low_fits))
