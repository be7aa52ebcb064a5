use Rattle.std.proofs.Common.{◌≡◌, drop}
use Rattle.rv_types.specs.BodiesOf.{task_index}
use Rattle.rv_types.proofs.unit.task_index.Given as goal

abbrev pub invariant-loop-index : goal.invariant-loop-index
invariant-loop-index l = task_index l.name l.index (drop l.index l.tasks) ≡ task_index l.name 0 l.tasks
