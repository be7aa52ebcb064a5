use Rattle.std.proofs.Common.{take}
use Rattle.rv_turn.specs.Histories.{Each}
use Rattle.rv_crew.specs.Crews.{Keeps}
use Rattle.rv_crew.proofs.crew.keep_all.Given as goal

abbrev pub invariant-loop-port : goal.invariant-loop-port
invariant-loop-port l = Each (λ p. Keeps p) (take l.port-index l.ports)
