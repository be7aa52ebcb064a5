use Rattle.std.proofs.Common.{◌-◌}
use Rattle.std.specs.Io.KnownBytes.{Consumes, prepend_known}
use Rattle.rv_input.specs.Coming.{IfTold, coming, most_before}
use Rattle.rv_input.proofs.Passing.{Passed}
use Rattle.rv_input.proofs.input.Input.preamble.Given as goal

abbrev pub invariant-loop-bytes : goal.invariant-loop-bytes
invariant-loop-bytes g l = record {
  passed : IfTold (coming most_before l.fn.self (g.R.Read.remaining l.fn.reader)) (coming most_before l.self (g.R.Read.remaining l.reader)) (Passed l.bytes.items);
  taken : Consumes (prepend_known l.fn.self.ahead (g.R.Read.remaining l.fn.reader)) (prepend_known l.self.ahead (g.R.Read.remaining l.reader)) l.bytes.items;
}

abbrev pub decreases-loop-bytes : goal.decreases-loop-bytes
decreases-loop-bytes g l = most_before - l.self.given
