use Rattle.std.proofs.Common.{◌-◌}
use Rattle.std.specs.Prelude.{string_bytes}
use Rattle.rv_input.specs.Coming.{IfTold, Shortens, coming, most_before, most_bytes}
use Rattle.rv_input.proofs.Passing.{Kept}
use Rattle.rv_input.proofs.input.Input.unit_text.Given as goal

abbrev pub invariant-loop-text : goal.invariant-loop-text
invariant-loop-text g l = record {
  came : IfTold (coming most_before l.fn.self (g.R.Read.remaining l.fn.reader)) (coming most_before l.self (g.R.Read.remaining l.reader)) (Kept (string_bytes l.text));
  reads : Shortens (g.R.Read.remaining l.fn.reader) (g.R.Read.remaining l.reader);
}

abbrev pub decreases-loop-text : goal.decreases-loop-text
decreases-loop-text g l = most_bytes - l.self.given
