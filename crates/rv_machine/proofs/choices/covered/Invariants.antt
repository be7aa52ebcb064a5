use Rattle.std.proofs.Common.{◌≡◌, length}
use Rattle.rv_exec.specs.Choices.{covered}
use Rattle.rv_flat.specs.Tables.{trees}
use Rattle.rv_flat.specs.Trees.{tree_at, as_choices}
use Rattle.rv_machine.proofs.choices.covered.Given as goal

abbrev pub invariant-choices : goal.invariant-choices
invariant-choices l = covered (as_choices (tree_at (trees l.code) l.rest)) l.value ≡ covered (as_choices (tree_at (trees l.code) l.choices)) l.value

abbrev pub decreases-choices : goal.decreases-choices
decreases-choices l = length (as_choices (tree_at (trees l.code) l.rest))
