use Rattle.std.proofs.Common.{rules, tests, ◌∙◌, ap, ℤ, to_z, of_z, w64, SFits}
use Rattle.std.proofs.lemmas.Int.{to_z-of_z}
use Rattle.rv_types.specs.Spans.{each_once}
use Rattle.rv_types.proofs.Chains.{sorted_rising, still_parts, same_once}
use Rattle.rv_types.proofs.covers.each_once.Goals as goal

pub in_order-requires-clause-parts : goal.in_order-requires-clause-parts
in_order-requires-clause-parts c = search (rules, tests, still_parts)

pub in_order-requires-clause-order : goal.in_order-requires-clause-order
in_order-requires-clause-order c = sorted_rising c.sort_unstable.new.self.items c.sort_unstable.ensures.sorted

pub returns : goal.returns
returns c =
    let high_fits : SFits w64 c.args.high = search rules in
    let low_fits : SFits w64 c.args.low = search rules in
    same_once c.args.gaps c.args.low c.args.high c.args.given.items c.sort_unstable.new.self.items c.in_order.result c.sort_unstable.ensures.permutation
    (c.in_order.ensures ∙ ap (λ (z : ℤ). each_once c.args.gaps z (to_z w64 (of_z w64 c.args.high)) c.sort_unstable.new.self.items) (to_z-of_z w64 c.args.low low_fits)
    ∙ ap (λ (z : ℤ). each_once c.args.gaps c.args.low z c.sort_unstable.new.self.items) (to_z-of_z w64 c.args.high high_fits))
