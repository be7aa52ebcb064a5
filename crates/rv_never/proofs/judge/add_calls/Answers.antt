use Rattle.std.proofs.Common.{◌≤◌, ◌++◌, List, length, take, sym, subst, arith}
use Rattle.std.proofs.lemmas.List.{append-nil, take_all}
use Rattle.rv_never.specs.Nevers.{calls_of}
use Rattle.rv_never.specs.Written.{AreSame}
use Rattle.rv_never.specs.declared.calls.TaskCalls.{TaskCalls}
use Rattle.rv_never.proofs.Same.{by_equal, joined_more}
use Rattle.rv_never.proofs.judge.add_calls.Goals as goal

pub loop-task-init : goal.loop-task-init
loop-task-init c = by_equal c.args.calls.now.items (c.args.calls.now.items ++ calls_of (take 0 c.args.tasks.now)) (sym (append-nil c.args.calls.now.items))

pub loop-task-preserved : goal.loop-task-preserved
loop-task-preserved c =
    joined_more c.args.calls.now.items c.loop-task.calls.items c.add_all_new.new.calls.items c.args.tasks.now c.loop-task.task-index c.task-item.result c.as_slice.result.now
    c.loop-task-test.true c.task-item.is c.as_slice.ensures.value c.loop-task.invariant c.in_ok-add_all_new.ensures

pub returns : goal.returns
returns c =
    let past : length c.args.tasks.now ≤ c.loop-task.task-index = omega (arith, c.loop-task-test.false) in
    subst (λ (tasks : List TaskCalls). AreSame c.loop-task.calls.items (c.args.calls.now.items ++ calls_of tasks)) (take_all c.loop-task.task-index c.args.tasks.now past) c.loop-task.invariant
