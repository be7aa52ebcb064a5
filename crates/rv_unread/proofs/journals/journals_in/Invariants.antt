use Rattle.std.proofs.Common.{◌≡◌, ◌+◌, ◌≤◌, length, count_by}
use denote.Text.{Utf8}
use denote.Shadow.{shadow}
use Rattle.std.specs.Str.Lines.{lines}
use Rattle.rv_unread.specs.Journals.{opens_journal}
use Rattle.rv_unread.proofs.journals.journals_in.Given as goal

-- the lines so far were looked at
abbrev pub invariant-loop-line : goal.invariant-loop-line
invariant-loop-line l =
    record {
      text : shadow (Utf8 l.rest);
      few : l.count + length l.rest ≤ length l.fn.script;
      counted : l.count + count_by opens_journal (lines l.rest) ≡ count_by opens_journal (lines l.fn.script);
    }

abbrev pub decreases-loop-line : goal.decreases-loop-line
decreases-loop-line l = length l.rest
