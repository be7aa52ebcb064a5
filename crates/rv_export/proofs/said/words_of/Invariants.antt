use Rattle.std.proofs.Common.{◌≡◌, map, take}
use Rattle.std.specs.Prelude.{string_bytes}
use Rattle.rv_access.specs.Text.{line_text}
use Rattle.rv_export.proofs.said.words_of.Given as goal

abbrev pub invariant-loop-line : goal.invariant-loop-line
invariant-loop-line l = map string_bytes l.words.items ≡ map line_text (take l.line-index l.lines)
