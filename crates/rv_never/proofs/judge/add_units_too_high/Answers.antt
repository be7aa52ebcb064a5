use Rattle.std.proofs.Common.{◌≤◌, List, length, subst, arith}
use Rattle.rv_never.specs.Nevers.{Adds, DueBy, OfTask, OfTasks}
use Rattle.rv_never.specs.declared.calls.TaskCalls.{TaskCalls}
use Rattle.rv_never.proofs.Adding.{all_by, more_by, none_by}
use Rattle.rv_never.proofs.judge.add_units_too_high.Goals as goal

pub loop-calls-init : goal.loop-calls-init
loop-calls-init c = none_by (OfTasks c.args.catalogue.now) c.args.units.now c.args.notes.now.items

pub loop-calls-preserved : goal.loop-calls-preserved
loop-calls-preserved c =
    let added = subst (λ (tasks : List TaskCalls). Adds (DueBy (OfTask c.args.catalogue.now) tasks) c.loop-calls.notes.items c.add_tasks_too_high.new.notes.items) c.as_slice.ensures.value c.in_ok-add_tasks_too_high.ensures in
    more_by (OfTasks c.args.catalogue.now) c.args.units.now c.loop-calls.calls-index c.calls-item.result c.args.notes.now.items c.loop-calls.notes.items c.add_tasks_too_high.new.notes.items c.loop-calls-test.true
    c.calls-item.is c.loop-calls.invariant added

pub returns : goal.returns
returns c =
    let past : length c.args.units.now ≤ c.loop-calls.calls-index = omega (arith, c.loop-calls-test.false) in
    all_by (OfTasks c.args.catalogue.now) c.args.units.now c.loop-calls.calls-index c.args.notes.now.items c.loop-calls.notes.items past c.loop-calls.invariant
