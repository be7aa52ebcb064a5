use Rattle.std.proofs.Common.{◌≡◌, drop, true}
use Rattle.rv_lex.specs.Characters.{is_spaced_after}
use Rattle.rv_misread.proofs.words.has_single_lines.Given as goal

abbrev pub invariant-loop-byte : goal.invariant-loop-byte
invariant-loop-byte l = is_spaced_after l.after_line (drop l.byte-index l.text) ≡ is_spaced_after true l.text
