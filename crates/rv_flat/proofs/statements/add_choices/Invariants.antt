use Rattle.std.proofs.Common.{◌≤◌, length, drop}
use Rattle.rv_flat.specs.Tables.{trees}
use Rattle.rv_flat.specs.Trees.{Stands, as_choices}
use Rattle.rv_flat.proofs.statements.add_choices.Given as goal

abbrev pub invariant-loop-left : goal.invariant-loop-left
invariant-loop-left l = (l.left ≤ length l.choices.items) × Stands as_choices (trees l.fn.code) (trees l.code) l.rest (drop l.left l.choices.items)

abbrev pub decreases-loop-left : goal.decreases-loop-left
decreases-loop-left l = l.left
