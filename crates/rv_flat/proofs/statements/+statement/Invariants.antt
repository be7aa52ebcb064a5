use Rattle.std.proofs.Common.{◌≤◌, length, drop}
use Rattle.rv_code.specs.StatementView.{statements_view, branches_view, alternatives_view}
use Rattle.rv_flat.specs.Tables.{trees}
use Rattle.rv_flat.specs.Trees.{Stands, as_statements, as_branches, as_alternatives}
use Rattle.rv_flat.proofs.statements.+statement.Given as goal

abbrev pub invariant-add_statements-loop-left : goal.invariant-add_statements-loop-left
invariant-add_statements-loop-left l = (l.left ≤ length l.statements.items) × Stands as_statements (trees l.fn.code) (trees l.code) l.rest (statements_view (drop l.left l.statements.items))

abbrev pub decreases-add_statements-loop-left : goal.decreases-add_statements-loop-left
decreases-add_statements-loop-left l = l.left

abbrev pub invariant-add_branches-loop-left : goal.invariant-add_branches-loop-left
invariant-add_branches-loop-left l = (l.left ≤ length l.branches.items) × Stands as_branches (trees l.fn.code) (trees l.code) l.rest (branches_view (drop l.left l.branches.items))

abbrev pub decreases-add_branches-loop-left : goal.decreases-add_branches-loop-left
decreases-add_branches-loop-left l = l.left

abbrev pub invariant-add_alternatives-loop-left : goal.invariant-add_alternatives-loop-left
invariant-add_alternatives-loop-left l = (l.left ≤ length l.alternatives.items) × Stands as_alternatives (trees l.fn.code) (trees l.code) l.rest (alternatives_view (drop l.left l.alternatives.items))

abbrev pub decreases-add_alternatives-loop-left : goal.decreases-add_alternatives-loop-left
decreases-add_alternatives-loop-left l = l.left
