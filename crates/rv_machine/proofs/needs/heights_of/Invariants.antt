use Rattle.std.proofs.Common.{◌<◌, ◌+◌, ◌-◌, length}
use Rattle.rv_flat.specs.Tables.{trees}
use Rattle.rv_machine.specs.Needs.{AreHeightsTo}
use Rattle.rv_machine.proofs.needs.heights_of.Given as goal

abbrev pub invariant-numbers : goal.invariant-numbers
invariant-numbers l = record { some : 0 < length l.heights.items; are : AreHeightsTo (length l.heights.items) l.one l.call (trees l.code) l.heights.items }

abbrev pub decreases-numbers : goal.decreases-numbers
decreases-numbers l = length (trees l.code) + 1 - length l.heights.items
