use Rattle.std.proofs.Common.{◌+◌, ◌≤◌, length}
use denote.Text.{Utf8}
use denote.Shadow.{shadow}
use Rattle.std.specs.Str.Lines.{lines}
use Rattle.rv_fault.specs.Parts.{section_of}
use Rattle.rv_explain.proofs.Walked.{Ahead}
use Rattle.rv_explain.proofs.spot.spot_of.Given as goal

abbrev pub invariant-each : goal.invariant-each
invariant-each l =
    shadow (Utf8 l.rest) × (l.spot.number + length l.rest ≤ l.part.line + length l.part.text.now)
    × Ahead (section_of l.part) l.at l.spot.number l.spot.line.now l.spot.offset (lines l.rest) l.left

abbrev pub decreases-each : goal.decreases-each
decreases-each l = length l.rest
