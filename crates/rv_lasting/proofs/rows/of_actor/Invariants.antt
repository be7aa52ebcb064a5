use Rattle.std.proofs.Common.{◌≡◌, take}
use Rattle.rv_lasting.specs.Rows.{of_actor}
use Rattle.rv_lasting.proofs.rows.of_actor.Given as goal

abbrev pub invariant-loop-span : goal.invariant-loop-span
invariant-loop-span l = l.mine.items ≡ of_actor l.actor (take l.span-index l.spans)
