use Rattle.std.proofs.Common.{◌≡◌, ◌++◌, drop, map}
use Rattle.rv_shape.proofs.fits.many_names.put_tasks.Given as goal

-- with the names that are still to come
abbrev pub invariant-loop-task : goal.invariant-loop-task
invariant-loop-task l =
    map (λ n. n.text.now) l.names.items ++ map (λ t. t.name) (drop l.task-index l.tasks) ≡ map (λ n. n.text.now) l.initial.names.items ++ map (λ t. t.name) l.tasks
