use Rattle.std.proofs.Common.{◌≡◌, drop, map}
use Rattle.std.specs.List.{list_all}
use Rattle.rv_code.specs.BodyView.{maybe_body_view}
use Rattle.rv_ranged.specs.Ranged.{task_ranged}
use Rattle.rv_ranged.proofs.body.tasks_ranged.Given as goal

abbrev pub invariant-loop-task : goal.invariant-loop-task
invariant-loop-task l =
    list_all (task_ranged l.units) (map maybe_body_view (drop l.task-index l.task-items))
    ≡ list_all (task_ranged l.units) (map maybe_body_view l.task-items)
