use Rattle.std.proofs.Common.{take}
use Rattle.rv_hits.specs.Counts.{IsFresh}
use Rattle.rv_hits.proofs.counts.counts_of.Given as goal

abbrev pub invariant-loop-line : goal.invariant-loop-line
invariant-loop-line l = IsFresh l.counts.items (take l.line-index l.lines)
