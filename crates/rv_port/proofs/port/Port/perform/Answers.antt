use Rattle.std.proofs.Common.{subst}
use Rattle.rv_port.specs.Ports.{Porting, porting, pass_of, PerformedBy}
use Rattle.rv_port.specs.Calls.{Tied}
use Rattle.rv_port.proofs.port.Port.perform.Goals as goal

pub returns-clause-performed : goal.returns-clause-performed
returns-clause-performed g c = subst (λ (z : Porting). PerformedBy z c.args.request.now c.perform.result (porting c.perform.new.self.pass c.perform.new.self.is_refused)) c.self.view_is c.perform.ensures.performed

pub returns-clause-tied : goal.returns-clause-tied
returns-clause-tied g c = subst (λ (z : Porting). Tied (pass_of z) c.args.request.now c.perform.result c.perform.new.self.pass) c.self.view_is c.perform.ensures.tied

pub returns-clause-explained : goal.returns-clause-explained
returns-clause-explained g c = c.perform.ensures.explains c.self.invariant
