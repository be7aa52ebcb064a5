use Rattle.std.proofs.Common.{take}
use Rattle.rv_never.specs.Nevers.{Adds, DueBy, IsDenialOf}
use Rattle.rv_never.proofs.judge.add_denials.Given as goal

-- the notes of those so far came behind the others
abbrev pub invariant-loop-called : goal.invariant-loop-called
invariant-loop-called l = Adds (DueBy (IsDenialOf l.catalogue l.list l.clock l.unit) (take l.called-index l.calls)) l.initial.notes.items l.notes.items
