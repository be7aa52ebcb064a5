use Rattle.std.proofs.Common.{◌+◌, ◌≤◌, length}
use denote.Text.{Utf8}
use denote.Shadow.{shadow}
use Rattle.std.specs.Str.Lines.{lines}
use Rattle.rv_explain.proofs.Walked.{Passed}
use Rattle.rv_explain.proofs.spot.line_spot.Given as goal

abbrev pub invariant-each : goal.invariant-each
invariant-each l = shadow (Utf8 l.rest) × (l.next + length l.rest ≤ length l.script + 1) × Passed l.script l.next (lines l.rest)

abbrev pub decreases-each : goal.decreases-each
decreases-each l = length l.rest
