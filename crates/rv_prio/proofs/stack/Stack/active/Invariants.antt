use Rattle.std.proofs.Common.{◌≡◌, take, reverse}
use Rattle.rv_prio.specs.Priority.{active_priority}
use Rattle.rv_prio.proofs.stack.Stack.active.Given as goal

abbrev pub invariant-loop-held : goal.invariant-loop-held
invariant-loop-held l = l.priority ≡ active_priority l.base (reverse (take l.held-index l.held-items))
