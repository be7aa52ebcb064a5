use Rattle.std.proofs.Common.{◌≡◌, replicate, None}
use Rattle.rv_present.proofs.by_actor.ByActor.new.Given as goal

abbrev pub invariant-loop-i : goal.invariant-loop-i
invariant-loop-i l = l.items.items ≡ replicate l.i None
