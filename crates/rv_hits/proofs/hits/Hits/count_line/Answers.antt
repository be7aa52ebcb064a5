use Rattle.std.proofs.Common.{◌≡◌, List, refl, rules, subst, sym, arith}
use Rattle.std.proofs.lemmas.List.{places, with_items_is}
use Rattle.std.specs.Vec.{with_items}
use Rattle.rv_hits.specs.Counts.{AreOf, CountsAt}
use Rattle.rv_hits.specs.declared.counts.Counted.{Counted}
use Rattle.rv_hits.proofs.Counting.{line_decides}
use Rattle.rv_hits.proofs.hits.Hits.count_line.Goals as goal

pub returns : goal.returns
returns c = λ list are.
    let it = c.args.self.now in
    let l = c.len.ensures in
    let few = c.if-len-number.false in
    let new : List Counted = c.count_at.new.counts in
    let lent : c.as_mut_slice.result.now ≡ it.counts.items = c.as_mut_slice.ensures.value in
    let kept : (with_items it.counts new).items ≡ new = with_items_is it.counts new (search (rules, places)) in
    line_decides it (record it { counts = with_items it.counts new }) list c.args.number c.if-number-eq0.false (λ lt. omega arith) are
    (λ line of found. subst (λ (cs : List Counted). CountsAt it.counts.items cs list line) (sym kept)
    (subst (λ (cs : List Counted). CountsAt cs new list line) lent (c.count_at.ensures list line (subst (λ (cs : List Counted). AreOf cs list) (sym lent) of) found)))
    refl
