use Rattle.std.proofs.Common.{◌≡◌, ◌<◌, ◌≤◌, ◌∙◌, ap, arith, length, get_or}
use Rattle.rv_flat.specs.FlatUnits.{task_in}
use Rattle.rv_machine.proofs.Needing.{tasks_more, no_tasks, tasks_all}
use Rattle.rv_machine.proofs.needs.tasks_high.Goals as goal

pub loop-task-init : goal.loop-task-init
loop-task-init c = λ ts call are. no_tasks c.args.one call

pub loop-task-preserved : goal.loop-task-preserved
loop-task-preserved c = λ ts call are.
    let lt : c.loop-task.task-index < length c.args.tasks.now.items = omega (arith, ap length c.deref-task-items.ensures.value) in
    let at : c.task-item.result ≡ get_or c.args.tasks.now.items c.loop-task.task-index c.task-item.result = c.task-item.is ∙ ap (λ xs. get_or xs c.loop-task.task-index c.task-item.result) c.deref-task-items.ensures.value in
    let more = tasks_more (task_in ts) c.args.one call c.loop-task.high c.task_high.result c.args.tasks.now.items c.loop-task.task-index c.task-item.result lt at (c.loop-task.invariant ts call are) (c.task_high.ensures ts call are) in
    let is = c.higher-high.ensures in
    omega (arith, more, is)

pub returns : goal.returns
returns c = λ ts call are.
    let le : length c.args.tasks.now.items ≤ c.loop-task.task-index = omega (arith, ap length c.deref-task-items.ensures.value) in
    tasks_all (task_in ts) c.args.one call c.loop-task.high c.args.tasks.now.items c.loop-task.task-index le (c.loop-task.invariant ts call are)
