use Rattle.std.proofs.Common.{rules, tests, ◌≡◌, true, w64, SFits}
use Rattle.std.specs.Prelude.{int_lt, pos}
use Rattle.std.proofs.lemmas.Int.{to_z-of_z}
use Rattle.rv_code.specs.StatementView.{alternatives_view}
use Rattle.rv_types.specs.Coverage.{others_last, lie_in}
use Rattle.rv_types.proofs.Covered.{parts_in, covered_by}
use Rattle.rv_types.proofs.covers.covers.Goals as goal

pub each_once-requires-clause-parts : goal.each_once-requires-clause-parts
each_once-requires-clause-parts c =
    let inside : lie_in c.args.range (alternatives_view c.args.list.now.items) ≡ true = search (rules, tests) in
    let high_fits : SFits w64 c.args.range.high = search rules in
    let low_fits : SFits w64 c.args.range.low = search rules in
    parts_in c.args.range (alternatives_view c.args.list.now.items) c.in_ok-spans.spans.items _ _ inside c.in_ok-spans.ensures
    (to_z-of_z w64 c.args.range.low low_fits) (to_z-of_z w64 c.args.range.high high_fits)

pub returns : goal.returns
returns c =
    let last : others_last (alternatives_view c.args.list.now.items) ≡ true = search (rules, tests) in
    let inside : lie_in c.args.range (alternatives_view c.args.list.now.items) ≡ true = search (rules, tests) in
    let end : int_lt c.args.range.high (pos 9223372036854775807) ≡ true = search (rules, tests) in
    let high_fits : SFits w64 c.args.range.high = search rules in
    let low_fits : SFits w64 c.args.range.low = search rules in
    covered_by c.args.range (alternatives_view c.args.list.now.items) c.in_ok-spans.spans.items _ _ _ c.each_once.result end last inside c.in_ok-spans.ensures
    c.with_others.ensures (to_z-of_z w64 c.args.range.low low_fits) (to_z-of_z w64 c.args.range.high high_fits) c.each_once.ensures
