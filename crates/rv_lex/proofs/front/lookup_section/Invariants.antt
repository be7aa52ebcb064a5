use Rattle.std.proofs.Common.{◌≡◌, length, map}
use Rattle.rv_lex.specs.Kinds.{kind_by_letter}
use Rattle.rv_lex.proofs.front.lookup_section.Given as goal

abbrev pub invariant-loop-sections : goal.invariant-loop-sections
invariant-loop-sections l =
    kind_by_letter (map (λ s. (s.0, map (λ e. (e.0.now, e.1)) s.1.now)) l.sections) l.letter l.word
    ≡ kind_by_letter (map (λ s. (s.0, map (λ e. (e.0.now, e.1)) s.1.now)) l.initial.sections) l.letter l.word

abbrev pub decreases-loop-sections : goal.decreases-loop-sections
decreases-loop-sections l = length l.sections
