use Rattle.std.proofs.Common.{◌≡◌, length}
use Rattle.rv_exec.specs.Choices.{handler_of}
use Rattle.rv_flat.specs.Tables.{trees}
use Rattle.rv_flat.specs.Trees.{tree_at, as_handlers}
use Rattle.rv_machine.proofs.choices.handler_of.Given as goal

abbrev pub invariant-handlers : goal.invariant-handlers
invariant-handlers l = handler_of (as_handlers (tree_at (trees l.code) l.rest)) l.exception ≡ handler_of (as_handlers (tree_at (trees l.code) l.handlers)) l.exception

abbrev pub decreases-handlers : goal.decreases-handlers
decreases-handlers l = length (as_handlers (tree_at (trees l.code) l.rest))
