use Rattle.std.proofs.Common.{◌≤◌, ℕ, List, map, take}
use Rattle.rv_flat.specs.FlatView.{body_in}
use Rattle.rv_flat.specs.Trees.{Tree}
use Rattle.rv_machine.specs.Heights.{operations_height}
use Rattle.rv_machine.specs.Needs.{AreHeights}
use Rattle.rv_machine.proofs.needs.operations_high.Given as goal

abbrev pub invariant-loop-body : goal.invariant-loop-body
invariant-loop-body l =
    (ts : List Tree) (call : ℕ) → AreHeights l.one call ts l.heights.items
    → operations_height l.one call (map (body_in ts) (take l.body-index l.operations.items)) ≤ l.high
