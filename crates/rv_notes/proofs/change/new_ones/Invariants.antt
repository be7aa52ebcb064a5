use Rattle.std.proofs.Common.{List, take}
use Rattle.rv_access.specs.Words.{Words}
use Rattle.rv_notes.specs.Names.{Scene}
use Rattle.rv_notes.specs.Notes.{AreNotes}
use Rattle.rv_notes.proofs.Changing.{NewSoFar}
use Rattle.rv_notes.proofs.change.new_ones.Given as goal

-- the new ones of those so far
abbrev pub invariant-loop-note : goal.invariant-loop-note
invariant-loop-note l =
    (scene : Scene) (old new : List Words) → AreNotes scene old l.before → AreNotes scene new l.found
    → NewSoFar scene old new l.number l.is_denial (take l.note-index l.found) l.new.items
