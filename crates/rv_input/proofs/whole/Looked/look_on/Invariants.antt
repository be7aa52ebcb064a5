use Rattle.std.specs.Prelude.{length}
use Rattle.rv_input.specs.Whole.{BeginsLine}
use Rattle.rv_input.proofs.WholeLines.{LeftOf}
use Rattle.rv_input.proofs.whole.Looked.look_on.Given as goal

abbrev pub invariant-loop-line : goal.invariant-loop-line
invariant-loop-line l = record {
  left : LeftOf l.bytes l.rest;
  begins : BeginsLine l.self.line l.bytes;
}

abbrev pub decreases-loop-line : goal.decreases-loop-line
decreases-loop-line l = length l.rest
