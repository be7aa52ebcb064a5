use Rattle.std.proofs.Common.{◌≡◌, ◌+◌, ◌≤◌, length}
use denote.Text.{Utf8}
use denote.Shadow.{shadow}
use Rattle.std.specs.Str.Lines.{lines}
use Rattle.rv_check.proofs.script.count_lines.Given as goal

-- the lines so far were counted
abbrev pub invariant-loop-after : goal.invariant-loop-after
invariant-loop-after l =
    record {
      text : shadow (Utf8 l.rest);
      few : l.count + length l.rest ≤ length l.fn.text;
      counted : l.count + length (lines l.rest) ≡ length (lines l.fn.text);
    }

abbrev pub decreases-loop-after : goal.decreases-loop-after
decreases-loop-after l = length l.rest
