use Rattle.std.proofs.Common.{List, ◌+◌, sym, subst, take, arith}
use Rattle.rv_hits.specs.Counts.{IsFresh}
use Rattle.rv_hits.specs.declared.counts.Counted.{Counted}
use Rattle.rv_hits.proofs.Places.{fresh_more}
use Rattle.rv_hits.proofs.counts.counts_of.Goals as goal

pub loop-line-preserved : goal.loop-line-preserved
loop-line-preserved c =
    subst (λ (counts : List Counted). IsFresh counts (take (c.loop-line.line-index + 1) c.args.lines.now)) (sym c.in_ok-push.ensures.items)
    (fresh_more c.args.lines.now c.loop-line.line-index c.line-item.result c.loop-line.counts.items c.in_ok-fresh.field-0 (omega arith) c.line-item.is c.loop-line.invariant c.in_ok-fresh.ensures)
