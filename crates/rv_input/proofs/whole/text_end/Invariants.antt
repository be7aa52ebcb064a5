use Rattle.std.specs.Prelude.{length}
use Rattle.rv_input.specs.Whole.{EndsText, OneIs, whole_lines}
use Rattle.rv_input.proofs.whole.text_end.Given as goal

abbrev pub invariant-loop-line : goal.invariant-loop-line
invariant-loop-line l = OneIs EndsText (whole_lines l.rest) → OneIs EndsText (whole_lines l.bytes)

abbrev pub decreases-loop-line : goal.decreases-loop-line
decreases-loop-line l = length l.rest
