use Rattle.std.proofs.Common.{◌≤◌, length, drop}
use Rattle.rv_code.specs.ExpressionView.{expressions_view, links_view}
use Rattle.rv_flat.specs.Tables.{trees}
use Rattle.rv_flat.specs.Trees.{Stands, as_expressions, as_links}
use Rattle.rv_flat.proofs.expressions.+expression.Given as goal

abbrev pub invariant-add_expressions-loop-left : goal.invariant-add_expressions-loop-left
invariant-add_expressions-loop-left l = (l.left ≤ length l.expressions.items) × Stands as_expressions (trees l.fn.code) (trees l.code) l.rest (expressions_view (drop l.left l.expressions.items))

abbrev pub decreases-add_expressions-loop-left : goal.decreases-add_expressions-loop-left
decreases-add_expressions-loop-left l = l.left

abbrev pub invariant-add_links-loop-left : goal.invariant-add_links-loop-left
invariant-add_links-loop-left l = (l.left ≤ length l.links.items) × Stands as_links (trees l.fn.code) (trees l.code) l.rest (links_view (drop l.left l.links.items))

abbrev pub decreases-add_links-loop-left : goal.decreases-add_links-loop-left
decreases-add_links-loop-left l = l.left
