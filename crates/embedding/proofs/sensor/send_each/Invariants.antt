use Rattle.std.proofs.Common.{◌≡◌, true, List}
use Rattle.rv_turn.specs.Histories.{Each}
use Rattle.rv_crew.specs.Tasks.{goes_on}
use Rattle.embedding.specs.Jobs.{Sampled, Samples}
use Rattle.embedding.proofs.sensor.send_each.Given as goal

-- behind each number so far the sensor goes on
abbrev pub invariant-loop-line : goal.invariant-loop-line
invariant-loop-line g l = ((samples : List Sampled) × Samples l.fn.wiring samples l.fn.port l.port
    × Each (λ sampled. goes_on sampled.reached ≡ true) samples)
    × (l.port.turn ≡ l.fn.port.turn) × (l.port.actor ≡ l.fn.port.actor)
