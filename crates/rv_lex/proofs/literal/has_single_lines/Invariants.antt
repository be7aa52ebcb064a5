use Rattle.std.proofs.Common.{◌≡◌, drop, true}
use Rattle.rv_lex.specs.Characters.{is_spaced_after}
use Rattle.rv_lex.proofs.literal.has_single_lines.Given as goal

abbrev pub invariant-loop-b : goal.invariant-loop-b
invariant-loop-b l = is_spaced_after l.after_line (drop l.b-index l.text) ≡ is_spaced_after true l.text
