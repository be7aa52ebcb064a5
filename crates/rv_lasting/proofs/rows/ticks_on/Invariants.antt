use Rattle.std.proofs.Common.{◌≡◌, take}
use Rattle.rv_lasting.specs.Rows.{ticks_on}
use Rattle.rv_lasting.proofs.rows.ticks_on.Given as goal

abbrev pub invariant-loop-span : goal.invariant-loop-span
invariant-loop-span l = l.ticks.items ≡ ticks_on l.object (take l.span-index l.spans)
