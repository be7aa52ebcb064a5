use Rattle.std.proofs.Common.{◌≡◌, ◌<◌, ◌≤◌, ap, ◌∙◌, arith, length, get_or}
use Rattle.rv_code.specs.BodyView.{maybe_body_view}
use Rattle.rv_flat.specs.FlatUnits.{IsTaskAmong, task_in}
use Rattle.rv_flat.proofs.Units.{standing_start, standing_behind, standing_end, task_lasts}
use Rattle.rv_flat.proofs.unit.add_tasks.Goals as goal

pub loop-task-init : goal.loop-task-init
loop-task-init c = λ a xs h. standing_start IsTaskAmong task_in maybe_body_view a _ _ c.args.tasks.now.items xs h

pub loop-task-preserved : goal.loop-task-preserved
loop-task-preserved c =
    let lt : c.loop-task.task-index < length c.args.tasks.now.items = omega (arith, ap length c.deref-task-items.ensures.value) in
    let at : c.task-item.result ≡ get_or c.args.tasks.now.items c.loop-task.task-index c.task-item.result = c.task-item.is ∙ ap (λ xs. get_or xs c.loop-task.task-index c.task-item.result) c.deref-task-items.ensures.value in
    λ a xs h. standing_behind IsTaskAmong task_in maybe_body_view a _ _ _ _ c.args.tasks.now.items c.loop-task.task-index c.task-item.result c.in_ok-added.added xs task_lasts lt at c.in_ok-push.ensures.items (c.loop-task.invariant a xs h) c.in_ok-added.ensures

pub returns : goal.returns
returns c =
    let le : length c.args.tasks.now.items ≤ c.loop-task.task-index = omega (arith, ap length c.deref-task-items.ensures.value) in
    λ a xs h. standing_end IsTaskAmong task_in maybe_body_view a _ _ c.args.tasks.now.items c.loop-task.task-index xs le (c.loop-task.invariant a xs h)
