use Rattle.rv_never.specs.Nevers.{Adds, DueBelow, IsLineDenial}
use Rattle.rv_never.proofs.judge.add_line_denials.Given as goal

-- the notes of the lines so far came behind the others
abbrev pub invariant-loop-line : goal.invariant-loop-line
invariant-loop-line l = Adds (DueBelow (IsLineDenial l.before l.catalogue l.list l.clock) l.line) l.initial.notes.items l.notes.items
