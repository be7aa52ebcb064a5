use Rattle.std.proofs.Common.{◌≡◌, take, false}
use Rattle.rv_notes.specs.Names.{is_near_unit}
use Rattle.rv_notes.proofs.names.is_near_unit.Given as goal

-- the word is near to none of the units so far
abbrev pub invariant-loop-shape : goal.invariant-loop-shape
invariant-loop-shape l = is_near_unit (take l.shape-index l.catalogue) l.word ≡ false
