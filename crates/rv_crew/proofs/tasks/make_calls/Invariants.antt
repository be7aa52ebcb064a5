use Rattle.rv_port.specs.Calls.{Stays}
use Rattle.rv_port.specs.Ports.{Porting, pass_of}
use Rattle.rv_crew.specs.Tasks.{Calls}
use Rattle.rv_crew.proofs.tasks.make_calls.Given as goal

-- what is left to call leads on from where the port is
abbrev pub invariant-loop-left : goal.invariant-loop-left
invariant-loop-left g l = record {
  leads : (w : Porting) → Calls l.object l.operation l.left l.port w → Calls l.fn.object l.fn.operation l.fn.calls l.fn.port w;
  stays : Stays (pass_of l.fn.port) (pass_of l.port);
}

abbrev pub decreases-loop-left : goal.decreases-loop-left
decreases-loop-left g l = l.left
