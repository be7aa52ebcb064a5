use Rattle.std.proofs.Common.{List, subst}
use Rattle.std.specs.Prelude.{ℤ}
use Rattle.rv_event.specs.declared.entry.Request.TheVariants as Asks
use Rattle.rv_port.specs.Ports.{PerformedBy}
use Rattle.rv_port.proofs.port.Port.suspend.Goals as goal

pub returns-clause-performed : goal.returns-clause-performed
returns-clause-performed g c = subst (λ (z : List ℤ). PerformedBy c.args.self.now (Asks.Call c.args.object 4 z) c.call.result c.call.new.self) c.new.ensures c.call.ensures.performed
