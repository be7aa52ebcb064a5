use Rattle.std.proofs.Common.{take}
use Rattle.rv_table.specs.Spans.{AreEnds}
use Rattle.rv_table.proofs.spans.ends_of.Given as goal

-- the ends so far
abbrev pub invariant-loop-line : goal.invariant-loop-line
invariant-loop-line l = AreEnds l.ends.items (take l.line-index l.list)
