use Rattle.std.proofs.Common.{◌≡◌, length}
use Rattle.rv_types.specs.Points.{local_at}
use Rattle.rv_types.specs.Rising.{IsRising}
use Rattle.rv_types.proofs.locals.found_rising.Given as goal

abbrev pub invariant-halves : goal.invariant-halves
invariant-halves l = IsRising l.left × (local_at l.at l.left ≡ local_at l.at l.initial.left)

abbrev pub decreases-halves : goal.decreases-halves
decreases-halves l = length l.left
