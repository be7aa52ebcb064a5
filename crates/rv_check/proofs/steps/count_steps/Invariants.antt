use Rattle.std.proofs.Common.{◌≡◌, ◌+◌, ◌≤◌, length}
use denote.Text.{Utf8}
use denote.Shadow.{shadow}
use Rattle.std.specs.Str.Lines.{lines}
use Rattle.rv_check.specs.StepFaults.{steps_count, steps_fault}
use Rattle.rv_check.proofs.steps.count_steps.Given as goal

-- nothing stands against the lines so far, and their steps were counted
abbrev pub invariant-loop-text : goal.invariant-loop-text
invariant-loop-text l =
    record {
      text : shadow (Utf8 l.rest);
      few : l.line + length l.rest ≤ l.fn.part.line + length l.fn.part.text.now;
      less : l.count ≤ l.line;
      faults : steps_fault l.catalogue (l.fn.part.line + 1) (lines l.fn.part.text.now) ≡ steps_fault l.catalogue (l.line + 1) (lines l.rest);
      counted : steps_count (lines l.fn.part.text.now) ≡ l.count + steps_count (lines l.rest);
    }

abbrev pub decreases-loop-text : goal.decreases-loop-text
decreases-loop-text l = length l.rest
