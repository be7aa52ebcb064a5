use Rattle.std.proofs.Common.{◌≤◌, ℕ, List, map, take}
use Rattle.rv_flat.specs.FlatUnits.{object_in}
use Rattle.rv_flat.specs.Trees.{Tree}
use Rattle.rv_machine.specs.Heights.{objects_height}
use Rattle.rv_machine.specs.Needs.{AreHeights}
use Rattle.rv_machine.proofs.needs.objects_high.Given as goal

abbrev pub invariant-loop-object : goal.invariant-loop-object
invariant-loop-object l =
    (ts : List Tree) (call : ℕ) → AreHeights l.one call ts l.heights.items
    → objects_height l.one call (map (object_in ts) (take l.object-index l.objects.items)) ≤ l.high
