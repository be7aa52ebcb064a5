use Rattle.std.proofs.Common.{◌≡◌, ℕ, []}
use Rattle.rv_event.specs.declared.entry.Request.TheVariants.{Call}
use Rattle.embedding.specs.Jobs.{Asks}
use Rattle.embedding.proofs.actuator.wait_each.Given as goal

abbrev pub invariant-loop : goal.invariant-loop
invariant-loop g l = ((count : ℕ) × Asks (Call l.fn.actuator.object l.fn.actuator.entry []) count l.fn.port l.port)
    × (l.port.turn ≡ l.fn.port.turn) × (l.port.actor ≡ l.fn.port.actor)
