use Rattle.std.proofs.Common.{◌≡◌, ◌+◌, ◌≤◌, List, ◌++◌, Ok, length}
use denote.Text.{Utf8}
use denote.Shadow.{shadow}
use Rattle.std.specs.Str.Lines.{lines}
use Rattle.rv_play.specs.Acts.{Act, step_acts}
use Rattle.rv_play.specs.Scripted.{playing}
use Rattle.rv_play.specs.Carried.{Carries}
use Rattle.rv_play.proofs.play.perform_all.Given as goal

-- the steps so far were carried out, and the others are those of the lines that are left
abbrev pub invariant-loop-text : goal.invariant-loop-text
invariant-loop-text g l =
    record {
      text : shadow (Utf8 l.rest);
      few : l.line + length l.rest ≤ l.fn.steps.line + length l.fn.steps.text.now;
      done : List Act;
      all_acts : done ++ step_acts (l.line + 1) (lines l.rest) ≡ step_acts (l.fn.steps.line + 1) (lines l.fn.steps.text.now);
      carried : Carries (g.W.Write.contents l.fn.writer) (g.W.Write.contents l.writer) (playing l.fn.player) (playing l.player) done (Ok tt);
    }

abbrev pub decreases-loop-text : goal.decreases-loop-text
decreases-loop-text g l = length l.rest
