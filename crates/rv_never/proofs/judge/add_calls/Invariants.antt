use Rattle.std.proofs.Common.{◌++◌, take}
use Rattle.rv_never.specs.Nevers.{calls_of}
use Rattle.rv_never.specs.Written.{AreSame}
use Rattle.rv_never.proofs.judge.add_calls.Given as goal

-- those that were there, and those of the tasks so far
abbrev pub invariant-loop-task : goal.invariant-loop-task
invariant-loop-task l = AreSame l.calls.items (l.initial.calls.items ++ calls_of (take l.task-index l.tasks))
