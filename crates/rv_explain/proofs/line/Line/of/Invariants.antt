use Rattle.std.proofs.Common.{length}
use Rattle.rv_explain.proofs.line.Line.of.Given as goal

-- what is left gets shorter with each word
abbrev pub decreases-loop-word : goal.decreases-loop-word
decreases-loop-word l = length l.rest
