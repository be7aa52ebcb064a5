use Rattle.std.proofs.Common.{take}
use Rattle.rv_never.specs.Nevers.{Adds, DueBy, OfTask}
use Rattle.rv_never.proofs.judge.add_tasks_too_high.Given as goal

-- the notes of those so far came behind the others
abbrev pub invariant-loop-task : goal.invariant-loop-task
invariant-loop-task l = Adds (DueBy (OfTask l.catalogue) (take l.task-index l.tasks)) l.initial.notes.items l.notes.items
