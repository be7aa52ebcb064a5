use Rattle.std.proofs.Common.{◌≡◌, ◌≤◌, ◌+◌, List, length, take, subst, sym, ap, arith}
use Rattle.std.proofs.lemmas.List.{take_all}
use Rattle.std.proofs.lemmas.List.Sorted.{IsNonDecreasingBy-from_sort}
use Rattle.rv_access.specs.Words.{Words}
use Rattle.rv_table.specs.Spans.{AreEnds}
use Rattle.rv_table.proofs.Ends.{one_more, ordered}
use Rattle.rv_table.proofs.spans.ends_of.Goals as goal

pub returns-clause-rising : goal.returns-clause-rising
returns-clause-rising c = IsNonDecreasingBy-from_sort (λ x. x) _ c.in_ok-sort.ensures.sorted

pub returns-clause-all : goal.returns-clause-all
returns-clause-all c =
    let same : length c.lines-line-items.result.now ≡ length c.args.list.now = ap (λ (ls : List Words). length ls) c.lines-line-items.ensures in
    let past : length c.args.list.now ≤ c.loop-line.line-index = omega (arith, same, c.loop-line-test.false) in
    let all : AreEnds c.loop-line.ends.items c.args.list.now = subst (AreEnds c.loop-line.ends.items) (take_all c.loop-line.line-index c.args.list.now past) c.loop-line.invariant in
    ordered c.loop-line.ends.items c.sort.new.self.items c.args.list.now c.sort.ensures.permutation all

pub loop-line-preserved : goal.loop-line-preserved
loop-line-preserved c =
    let i = c.loop-line.line-index in
    let items = c.lines-line-items.result.now in
    let ends = c.add_ends.new.ends.items in
    let done = c.in_ok-add_ends.ensures (take i c.args.list.now) c.loop-line.invariant in
    let so_far : AreEnds ends (take i items) = subst (λ (ls : List Words). AreEnds ends (take i ls)) (sym c.lines-line-items.ensures) done.0 in
    subst (λ (ls : List Words). AreEnds ends (take (i + 1) ls)) c.lines-line-items.ensures
    (one_more ends items i c.line-item.result c.loop-line-test.true c.line-item.is so_far done.1)
