use Rattle.std.proofs.Common.{inr}
use Rattle.rv_input.specs.Whole.{EndsText}
use Rattle.rv_input.proofs.WholeLines.{one_of_first}
use Rattle.rv_input.proofs.whole.text_end.Goals as goal

pub loop-line-preserved : goal.loop-line-preserved
loop-line-preserved c = λ one. c.loop-line.invariant (one_of_first EndsText c.loop-line.rest.now c.in-Some.line.now c.in-Some.behind.now c.in-Some.ensures.lines (inr one))
