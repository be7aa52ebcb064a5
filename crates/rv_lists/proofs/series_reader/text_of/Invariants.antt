use Rattle.std.proofs.Common.{◌≡◌, ◌++◌, drop, map, string_bytes}
use Rattle.std.specs.Prelude.{◌==◌, if◌then◌else◌}
use Rattle.rv_access.specs.Text.{list_text, more_text}
use Rattle.rv_lists.proofs.series_reader.text_of.Given as goal

-- the text of the lines so far, with that of the others
abbrev pub invariant-loop-i : goal.invariant-loop-i
invariant-loop-i l =
    string_bytes l.text
    ++ (if l.i == 0 then list_text (map (λ x. x.now) (drop l.i l.lines)) else more_text (map (λ x. x.now) (drop l.i l.lines)))
    ≡ list_text (map (λ x. x.now) l.lines)
