use Rattle.std.proofs.Common.{length}
use Rattle.rv_port.specs.Calls.{Stays}
use Rattle.rv_port.specs.Ports.{pass_of}
use Rattle.rv_crew.specs.Tasks.{Fires}
use Rattle.rv_crew.proofs.tasks.fire_each.Given as goal

-- so many interrupts were made as numbers came
abbrev pub invariant-loop : goal.invariant-loop
invariant-loop g l = (goal.iterator-loop g).can_next l.iterator'
    × (goal.iterator-loop g).is_finite l.iterator'
    × Fires (length l.yielded) l.fn.port l.port
    × Stays (pass_of l.fn.port) (pass_of l.port)
