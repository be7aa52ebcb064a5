use Rattle.std.proofs.Common.{◌≡◌, ◌++◌, ◌∷◌, [], List, ◌∙◌, ap}
use Rattle.rv_lists.specs.Kept.{after, lists_of}
use Rattle.rv_lists.specs.declared.kept.Kept.{Kept}
use Rattle.rv_lists.proofs.Copied.{copied_more}
use Rattle.rv_lists.proofs.series.copied.Goals as goal

pub loop-i-preserved : goal.loop-i-preserved
loop-i-preserved c =
    let copies : List Kept = c.loop-i.copies.items in
    let pushed : c.push.new.self.items ≡ copies ++ c.in_ok-copy.copy ∷ [] = c.in_ok-push.ensures.items in
    let more = copied_more copies c.args.kept.now c.loop-i.i c.index-kept-i.result c.in_ok-copy.copy c.loop-i-test.true c.index-kept-i.is c.in_ok-copy.ensures c.loop-i.invariant.lists c.loop-i.invariant.last in
    record {
      lists = ap lists_of pushed ∙ more.0;
      last = ap (λ (kept : List Kept). after [] kept) pushed ∙ more.1;
    }
