use Rattle.rv_never.specs.Nevers.{Adds, DueBelow, IsLineTooHigh}
use Rattle.rv_never.proofs.judge.add_lines_too_high.Given as goal

-- the notes of the lines so far came behind the others
abbrev pub invariant-loop-line : goal.invariant-loop-line
invariant-loop-line l = Adds (DueBelow (IsLineTooHigh l.before l.catalogue) l.line) l.initial.notes.items l.notes.items
