use Rattle.std.proofs.Common.{take}
use Rattle.rv_never.specs.Nevers.{Adds, DueBy, OfUnit}
use Rattle.rv_never.proofs.judge.add_call_denials.Given as goal

-- the notes of those so far came behind the others
abbrev pub invariant-loop-calls : goal.invariant-loop-calls
invariant-loop-calls l = Adds (DueBy (OfUnit l.catalogue l.list l.clock) (take l.calls-index l.units)) l.initial.notes.items l.notes.items
