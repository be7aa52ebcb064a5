use Rattle.std.proofs.Common.{◌≡◌, ◌++◌, length}
use denote.Text.{Utf8}
use denote.Shadow.{shadow}
use Rattle.std.specs.Prelude.{string_bytes}
use Rattle.std.specs.List.{slice_split}
use Rattle.rv_times.specs.Telling.{is_feed, timed_lines}
use Rattle.rv_times.proofs.telling.put_lines.Given as goal

abbrev pub invariant-loop-line : goal.invariant-loop-line
invariant-loop-line l =
    shadow (Utf8 l.rest) × (string_bytes l.text ++ timed_lines l.is_json l.times (slice_split is_feed l.rest)
    ≡ string_bytes l.initial.text ++ timed_lines l.is_json l.times (slice_split is_feed l.lines))

abbrev pub decreases-loop-line : goal.decreases-loop-line
decreases-loop-line l = length l.rest
