use Rattle.std.proofs.Common.{◌≤◌, List, length, subst, arith}
use Rattle.rv_never.specs.Nevers.{Adds, DueBy, IsTooHighOf, OfTask}
use Rattle.rv_never.specs.declared.calls.Called.{Called}
use Rattle.rv_never.proofs.Adding.{all_by, more_by, none_by}
use Rattle.rv_never.proofs.judge.add_tasks_too_high.Goals as goal

pub loop-task-init : goal.loop-task-init
loop-task-init c = none_by (OfTask c.args.catalogue.now) c.args.tasks.now c.args.notes.now.items

pub loop-task-preserved : goal.loop-task-preserved
loop-task-preserved c =
    let added = subst (λ (calls : List Called). Adds (DueBy (IsTooHighOf c.args.catalogue.now (c.task-item.result).actor) calls) c.loop-task.notes.items c.add_calls_too_high.new.notes.items) c.as_slice.ensures.value c.in_ok-add_calls_too_high.ensures in
    more_by (OfTask c.args.catalogue.now) c.args.tasks.now c.loop-task.task-index c.task-item.result c.args.notes.now.items c.loop-task.notes.items c.add_calls_too_high.new.notes.items c.loop-task-test.true
    c.task-item.is c.loop-task.invariant added

pub returns : goal.returns
returns c =
    let past : length c.args.tasks.now ≤ c.loop-task.task-index = omega (arith, c.loop-task-test.false) in
    all_by (OfTask c.args.catalogue.now) c.args.tasks.now c.loop-task.task-index c.args.notes.now.items c.loop-task.notes.items past c.loop-task.invariant
