use Rattle.std.proofs.Common.{◌≡◌, ◌<◌, ◌≤◌, ◌+◌, ◌-◌, ◌++◌, length}
use Rattle.std.specs.Io.KnownBytes.{Consumes, prepend_known}
use Rattle.rv_input.specs.Coming.{IfTold, Shortens, coming}
use Rattle.rv_input.proofs.FirstLines.{NoFeed}
use Rattle.rv_input.proofs.input.Input.raw_line.Given as goal

abbrev pub invariant-loop-line : goal.invariant-loop-line
invariant-loop-line g l = record {
  none : NoFeed l.line.items;
  came : IfTold (coming l.most l.fn.self (g.R.Read.remaining l.fn.reader)) (coming l.most l.self (g.R.Read.remaining l.reader)) (λ old new. old ≡ l.line.items ++ new);
  taken : Consumes (prepend_known l.fn.self.ahead (g.R.Read.remaining l.fn.reader)) (prepend_known l.self.ahead (g.R.Read.remaining l.reader)) l.line.items;
  given : l.self.given ≡ l.fn.self.given + length l.line.items;
  reads : Shortens (g.R.Read.remaining l.fn.reader) (g.R.Read.remaining l.reader);
  within : 0 < length l.line.items → l.self.given ≤ l.most;
}

abbrev pub decreases-loop-line : goal.decreases-loop-line
decreases-loop-line g l = l.most - l.self.given
