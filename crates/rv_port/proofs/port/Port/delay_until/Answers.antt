use Rattle.std.proofs.Common.{◌≡◌, rules, arith, to_z, of_z, w64, subst}
use Rattle.std.specs.Prelude.{ℤ}
use Rattle.rv_event.specs.declared.entry.Request.TheVariants as Asks
use Rattle.rv_port.specs.Ports.{pass_of, PerformedBy}
use Rattle.rv_port.specs.Calls.{Tied}
use Rattle.rv_port.proofs.port.Port.delay_until.Goals as goal

pub returns-clause-performed : goal.returns-clause-performed
returns-clause-performed g c = let same : to_z w64 (of_z w64 c.args.time) ≡ c.args.time = first_of (search rules, grind arith) in
    subst (λ (z : ℤ). PerformedBy c.args.self.now (Asks.DelayUntil z) c.perform.result c.perform.new.self) same c.perform.ensures.performed

pub returns-clause-tied : goal.returns-clause-tied
returns-clause-tied g c = let same : to_z w64 (of_z w64 c.args.time) ≡ c.args.time = first_of (search rules, grind arith) in
    subst (λ (z : ℤ). Tied (pass_of c.args.self.now) (Asks.DelayUntil z) c.perform.result (pass_of c.perform.new.self)) same c.perform.ensures.tied
