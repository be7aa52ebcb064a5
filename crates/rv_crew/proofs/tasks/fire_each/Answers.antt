use Rattle.std.proofs.Common.{rules}
use Rattle.rv_port.specs.Ports.{pass_of}
use Rattle.rv_port.proofs.Performing.{stays_both}
use Rattle.rv_crew.proofs.Doing.{fires_one}
use Rattle.rv_crew.proofs.tasks.fire_each.Goals as goal

pub loop-preserved : goal.loop-preserved
loop-preserved g c = let was = c.loop.invariant in (
  search rules,
  search rules,
  fires_one c.loop.yielded c.in-Some.field-0 c.args.port.now c.loop.port c.fire-reached.new.self c.fire-reached.result was.2 c.fire-reached.ensures.performed,
  stays_both (pass_of c.args.port.now) (pass_of c.loop.port) (pass_of c.fire-reached.new.self) was.3 c.fire-reached.ensures.stays,
)
