use Rattle.std.proofs.Common.{◌≡◌, length}
use Rattle.rv_exec.specs.Choices.{named}
use Rattle.rv_flat.specs.Tables.{trees}
use Rattle.rv_flat.specs.Trees.{tree_at, as_exceptions}
use Rattle.rv_machine.proofs.choices.named.Given as goal

abbrev pub invariant-choices : goal.invariant-choices
invariant-choices l = named (as_exceptions (tree_at (trees l.code) l.rest)) l.exception ≡ named (as_exceptions (tree_at (trees l.code) l.choices)) l.exception

abbrev pub decreases-choices : goal.decreases-choices
decreases-choices l = length (as_exceptions (tree_at (trees l.code) l.rest))
