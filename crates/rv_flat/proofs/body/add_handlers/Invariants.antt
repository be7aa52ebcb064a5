use Rattle.std.proofs.Common.{◌≤◌, length, drop, map}
use Rattle.rv_code.specs.BodyView.{handler_view}
use Rattle.rv_flat.specs.Tables.{trees}
use Rattle.rv_flat.specs.Trees.{Stands, as_handlers}
use Rattle.rv_flat.proofs.body.add_handlers.Given as goal

abbrev pub invariant-loop-left : goal.invariant-loop-left
invariant-loop-left l = (l.left ≤ length l.handlers.items) × Stands as_handlers (trees l.fn.code) (trees l.code) l.rest (map handler_view (drop l.left l.handlers.items))

abbrev pub decreases-loop-left : goal.decreases-loop-left
decreases-loop-left l = l.left
