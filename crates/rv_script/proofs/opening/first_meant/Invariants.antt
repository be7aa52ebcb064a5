use Rattle.std.proofs.Common.{◌≡◌, ◌+◌, ◌≤◌, length}
use denote.Text.{Utf8}
use denote.Shadow.{shadow}
use Rattle.std.specs.Str.Lines.{lines}
use Rattle.rv_script.specs.Openings.{first_meant}
use Rattle.rv_script.proofs.opening.first_meant.Given as goal

abbrev pub invariant-loop-line : goal.invariant-loop-line
invariant-loop-line l =
    shadow (Utf8 l.rest) × (l.number + length l.rest ≤ length l.front + 1) × (first_meant l.number (lines l.rest) ≡ first_meant 1 (lines l.front))

abbrev pub decreases-loop-line : goal.decreases-loop-line
decreases-loop-line l = length l.rest
