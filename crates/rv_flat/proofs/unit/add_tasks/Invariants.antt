use Rattle.std.proofs.Common.{List, ◌++◌, map, take, Option}
use Rattle.rv_code.specs.Bodies as t
use Rattle.rv_code.specs.BodyView.{maybe_body_view}
use Rattle.rv_flat.specs.FlatUnits.{Standing, Every, IsTaskAmong, task_in}
use Rattle.rv_flat.specs.Tables.{trees}
use Rattle.rv_flat.specs.Trees.{Tree}
use Rattle.rv_flat.proofs.unit.add_tasks.Given as goal

abbrev pub invariant-loop-task : goal.invariant-loop-task
invariant-loop-task l =
    (a : List Tree) (xs : List (Option t.Body)) → Standing (λ n. Every (IsTaskAmong n)) (λ ts. map (task_in ts)) a (trees l.initial.code) l.initial.flat.items xs
    → Standing (λ n. Every (IsTaskAmong n)) (λ ts. map (task_in ts)) a (trees l.code) l.flat.items (xs ++ map maybe_body_view (take l.task-index l.tasks.items))
