use Rattle.rv_notes.proofs.Adding.{SoFar}
use Rattle.rv_notes.proofs.judge.notes.Given as goal

-- the notes of the lines so far
abbrev pub invariant-loop-place : goal.invariant-loop-place
invariant-loop-place l = SoFar l.scene l.list l.place l.notes.items
