use Rattle.std.proofs.Common.{take}
use Rattle.rv_never.specs.Nevers.{Adds, DueBy, IsTooHighOf}
use Rattle.rv_never.proofs.judge.add_calls_too_high.Given as goal

-- the notes of those so far came behind the others
abbrev pub invariant-loop-called : goal.invariant-loop-called
invariant-loop-called l = Adds (DueBy (IsTooHighOf l.catalogue l.actor) (take l.called-index l.calls)) l.initial.notes.items l.notes.items
