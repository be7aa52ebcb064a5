use Rattle.std.proofs.Common.{◌≡◌, take, false}
use Rattle.rv_notes.specs.Covered.{is_held}
use Rattle.rv_notes.proofs.spans.end_of.Given as goal

-- none of the spans so far holds the tick
abbrev pub invariant-loop-first : goal.invariant-loop-first
invariant-loop-first l = is_held (take l.first-index l.spans) l.tick ≡ false
