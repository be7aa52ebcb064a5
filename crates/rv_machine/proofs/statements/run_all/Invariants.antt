use Rattle.std.specs.Prelude.{◌≡◌}
use Rattle.rv_code.specs.Statements.{statements_size}
use Rattle.rv_flat.specs.Tables.{trees}
use Rattle.rv_flat.specs.Trees.{tree_at, as_statements}
use Rattle.rv_frames.specs.Frames.{runs_all}
use Rattle.rv_machine.specs.Points.{Keeps}
use Rattle.rv_machine.specs.Stacks.{below}
use Rattle.rv_machine.proofs.statements.run_all.Given as goal

abbrev pub invariant-statements : goal.invariant-statements
invariant-statements l = Keeps (runs_all (as_statements (tree_at (trees l.unit.code) l.statements)) l.initial.activation) (below l.unit l.initial.stack) (runs_all (as_statements (tree_at (trees l.unit.code) l.rest)) l.activation) (below l.unit l.stack) × (l.stack ≡ l.initial.stack)

abbrev pub decreases-statements : goal.decreases-statements
decreases-statements l = statements_size (as_statements (tree_at (trees l.unit.code) l.rest))
