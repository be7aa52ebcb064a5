use Rattle.std.proofs.Common.{◌≡◌, replicate}
use Rattle.rv_event.specs.declared.entry.Stance.TheVariants.{Free}
use Rattle.rv_present.proofs.stances.Stances.new.Given as goal

abbrev pub invariant-loop-i : goal.invariant-loop-i
invariant-loop-i l = l.items.items ≡ replicate l.i Free
