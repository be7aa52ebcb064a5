use Rattle.std.proofs.Common.{◌≡◌, length}
use Rattle.rv_exec.specs.Activations.{copied_back}
use Rattle.rv_flat.specs.Tables.{trees}
use Rattle.rv_flat.specs.Trees.{tree_at, as_targets}
use Rattle.rv_machine.proofs.copying.copy_back.Given as goal

abbrev pub invariant-targets : goal.invariant-targets
invariant-targets l =
    copied_back (as_targets (tree_at (trees l.code) l.rest)) l.index l.values l.activation
    ≡ copied_back (as_targets (tree_at (trees l.code) l.targets)) 0 l.values l.initial.activation

abbrev pub decreases-targets : goal.decreases-targets
decreases-targets l = length (as_targets (tree_at (trees l.code) l.rest))
