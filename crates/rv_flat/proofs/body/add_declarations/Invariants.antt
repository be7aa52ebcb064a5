use Rattle.std.proofs.Common.{◌≤◌, length, drop, map}
use Rattle.rv_code.specs.BodyView.{declaration_view}
use Rattle.rv_flat.specs.Tables.{trees}
use Rattle.rv_flat.specs.Trees.{Stands, as_declarations}
use Rattle.rv_flat.proofs.body.add_declarations.Given as goal

abbrev pub invariant-loop-left : goal.invariant-loop-left
invariant-loop-left l = (l.left ≤ length l.declarations.items) × Stands as_declarations (trees l.fn.code) (trees l.code) l.rest (map declaration_view (drop l.left l.declarations.items))

abbrev pub decreases-loop-left : goal.decreases-loop-left
decreases-loop-left l = l.left
