use Rattle.std.proofs.Common.{◌≤◌, ℕ, List, map, take}
use Rattle.rv_flat.specs.FlatUnits.{task_in}
use Rattle.rv_flat.specs.Trees.{Tree}
use Rattle.rv_machine.specs.Heights.{tasks_height}
use Rattle.rv_machine.specs.Needs.{AreHeights}
use Rattle.rv_machine.proofs.needs.tasks_high.Given as goal

abbrev pub invariant-loop-task : goal.invariant-loop-task
invariant-loop-task l =
    (ts : List Tree) (call : ℕ) → AreHeights l.one call ts l.heights.items
    → tasks_height l.one call (map (task_in ts) (take l.task-index l.tasks.items)) ≤ l.high
